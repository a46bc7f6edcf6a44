-- A row, or a failure, that stands in the list of a task stands in the whole list.
use Rattle.std.proofs.Common.{◌≡◌, ℕ, ◌+◌, ◌<◌, ◌≤◌, zero, suc, List, [], ◌∷◌, ◌++◌, Bool, true, false, refl, ap, sym, ◌∙◌, arith, subst, ◌⊎◌, inl, inr}
use Rattle.std.specs.Prelude.{Contains, sum_by, ◌==◌, if◌then◌else◌}
use Rattle.std.proofs.lemmas.Bool.{cases_lt, eq-eqb, eqb-true}
use Rattle.std.proofs.lemmas.List.Elements.{Contains-append_left, Contains-append_right}
use Rattle.std.proofs.lemmas.List.Sorted.{Contains-permutation}
use Rattle.std.proofs.lemmas.List.Sums.{sum_by-cons}
use Rattle.sql_values.specs.declared.value.Value.{Value}
use Rattle.sql_values.specs.declared.fail.Fail.{Fail}
use Rattle.sql_values.specs.declared.fail.Fail.TheVariants.{OutOfRange, DivisionByZero, BadCast, TextTooLong}
use Rattle.relation_laws.specs.Verdicts.{Verdict, drops, fails, keeps}
use Rattle.bag_laws.specs.Gather.{gather}
use Rattle.bag_laws.specs.Weights.{SameWeights}
use Rattle.bag_laws.proofs.BagLemmas.{bag_from_same}

module _ {X : Type 0} where
  gathered_at : (n : ℕ) (lists : ℕ → List X) (x : X) (k : ℕ) → Contains (lists k) x → (k < n → Contains (gather n lists) x) → k < suc n
      → (k < n) ⊎ (n ≤ k) → Contains (gather n lists ++ lists n) x
  gathered_at n lists x k among rest lt (inl below) = Contains-append_left (gather n lists) (lists n) x (rest below)
  gathered_at n lists x k among rest lt (inr last) =
      let same : k ≡ n = omega (arith, lt, last) in
      Contains-append_right (gather n lists) (lists n) x (subst (λ (j : ℕ). Contains (lists j) x) same among)

  pub among-gather : (n : ℕ) (lists : ℕ → List X) (x : X) (k : ℕ) → k < n → Contains (lists k) x → Contains (gather n lists) x
  among-gather zero lists x k lt among = absurd (omega (arith, lt))
  among-gather (suc n) lists x k lt among = gathered_at n lists x k among (λ below. among-gather n lists x k below among) lt (cases_lt k n)

pub among-same : (A B : List (List Value)) (row : List Value) → SameWeights A B → Contains A row → Contains B row
among-same A B row s among = Contains-permutation A B row (bag_from_same A B s) among

-- failures told apart by numbers
fail_number : Fail → ℕ
fail_number OutOfRange = 1
fail_number DivisionByZero = 2
fail_number BadCast = 3
fail_number TextTooLong = 4

fail_of : ℕ → Fail
fail_of n = if n == 1 then OutOfRange else (if n == 2 then DivisionByZero else (if n == 3 then BadCast else TextTooLong))

fail_is : (kind : Fail) → fail_of (fail_number kind) ≡ kind
unfolding fail_number fail_of
fail_is OutOfRange = refl
fail_is DivisionByZero = refl
fail_is BadCast = refl
fail_is TextTooLong = refl

some_number : (kind : Fail) → 0 < fail_number kind
unfolding fail_number
some_number OutOfRange = omega arith
some_number DivisionByZero = omega arith
some_number BadCast = omega arith
some_number TextTooLong = omega arith

number : Verdict → ℕ
number (keeps row) = 0
number drops = 0
number (fails kind) = fail_number kind

number_is : (v : Verdict) (kind : Fail) → number v ≡ fail_number kind → v ≡ fails kind
unfolding number
number_is (keeps row) kind e = absurd (omega (arith, e, some_number kind))
number_is drops kind e = absurd (omega (arith, e, some_number kind))
number_is (fails other) kind e = ap fails (sym (fail_is other) ∙ ap fail_of e ∙ fail_is kind)

hit : Fail → Verdict → ℕ
hit kind v = if number v == fail_number kind then 1 else 0

hit_itself : (kind : Fail) → hit kind (fails kind) ≡ 1
unfolding hit number
hit_itself kind = ap {B = ℕ} (λ b. if b then 1 else 0) (eq-eqb (fail_number kind) (fail_number kind) refl)

hit_at : (kind : Fail) (v : Verdict) (A : List Verdict) (b : Bool) → (number v == fail_number kind) ≡ b → (0 < sum_by (hit kind) A → Contains A (fails kind))
    → 0 < (if b then 1 else 0) + sum_by (hit kind) A → Contains (v ∷ A) (fails kind)
hit_at kind v A true e rest h = (zero, omega arith, number_is v kind (eqb-true (number v) (fail_number kind) e))
hit_at kind v A false e rest h = Contains-append_right (v ∷ []) A (fails kind) (rest (omega (arith, h)))

found : (kind : Fail) (A : List Verdict) → 0 < sum_by (hit kind) A → Contains A (fails kind)
unfolding hit
found kind [] h = absurd (omega (arith, h))
found kind (v ∷ A) h =
    hit_at kind v A (number v == fail_number kind) refl (found kind A) (omega (arith, h, sum_by-cons (hit kind) v A))

weighs_some : (kind : Fail) (A : List Verdict) → Contains A (fails kind) → 0 < sum_by (hit kind) A
weighs_some kind [] (k, lt, is) = absurd (omega (arith, lt))
weighs_some kind (v ∷ A) (zero, lt, is) = omega (arith, sum_by-cons (hit kind) v A, ap (hit kind) is, hit_itself kind)
weighs_some kind (v ∷ A) (suc k, lt, is) = omega (arith, sum_by-cons (hit kind) v A, weighs_some kind A (k, omega (arith, lt), is))

pub failure-same : (kind : Fail) (A B : List Verdict) → SameWeights A B → Contains A (fails kind) → Contains B (fails kind)
failure-same kind A B s among = found kind B (omega (arith, weighs_some kind A among, s.weighs (hit kind)))
