-- Lists of numbers that weigh the same, whatever the weights, hold the same numbers.
use Rattle.std.proofs.Common.{◌≡◌, ◌≢◌, ℕ, zero, suc, ◌+◌, ◌-◌, ◌<◌, ◌≤◌, List, [], ◌∷◌, ◌++◌, cond, eqb, eq-eqb, ne_eqb, refl, sym, ap, ◌∙◌, subst, arith}
use Rattle.std.specs.Prelude.{sum_by, IsPermutation}
use Rattle.std.specs.List.{range_with_len}
use Rattle.std.proofs.lemmas.List.Sums.{sum_by-cons, sum_by-append}
use Rattle.std.proofs.lemmas.List.Sorted.{IsPermutation-refl, IsPermutation-sym, IsPermutation-trans, IsPermutation-cons, IsPermutation-middle, IsPermutation-append_left}
use Rattle.sql_values.specs.Bags.{SubBag}
use mathlib.Core.Logic.{dite}
use native.Mathlib.Decide.{ℕ_discrete}

-- x stands somewhere in the list
pub record Stands (x : ℕ) (xs : List ℕ) : Type 0 where
  pub front : List ℕ
  pub back : List ℕ
  pub is : xs ≡ front ++ x ∷ back

pub hit : ℕ → ℕ → ℕ
hit x y = cond (eqb x y) 1 0

pub hit_itself : (x : ℕ) → hit x x ≡ 1
unfolding hit
hit_itself x = ap (λ b. cond b 1 0) (eq-eqb x x refl)

hit_other : (x y : ℕ) → x ≢ y → hit x y ≡ 0
unfolding hit
hit_other x y apart = ap (λ b. cond b 1 0) (ne_eqb x y apart)

pub found : (x : ℕ) (ys : List ℕ) → 0 < sum_by (hit x) ys → Stands x ys
found x [] h = absurd (omega (arith, h))
found x (y ∷ ys) h =
    dite (ℕ_discrete x y) (λ e. record { front = []; back = ys; is = ap (λ z. z ∷ ys) (sym e) }) (λ apart. let rest : Stands x ys = found x ys (omega (arith, hit_other x y apart, sum_by-cons (hit x) y ys, h)) in record { front = y ∷ rest.front; back = rest.back; is = ap (λ zs. y ∷ zs) rest.is })

pub weighed_alike : (xs ys : List ℕ) → ((h : ℕ → ℕ) → sum_by h xs ≡ sum_by h ys) → IsPermutation xs ys
weighed_alike [] [] e = IsPermutation-refl []
weighed_alike [] (y ∷ ys) e = absurd (omega (arith, e (λ z. 1), sum_by-cons (λ z. 1) y ys))
weighed_alike (x ∷ xs) ys e =
    let s : Stands x ys = found x ys (omega (arith, e (hit x), hit_itself x, sum_by-cons (hit x) x xs)) in
    let rest : IsPermutation xs (s.front ++ s.back) = weighed_alike xs (s.front ++ s.back) (λ h.
    omega (arith, e h, ap (sum_by h) s.is, sum_by-cons h x xs, sum_by-append h s.front (x ∷ s.back), sum_by-cons h x s.back, sum_by-append h s.front s.back)) in
    subst (λ zs. IsPermutation (x ∷ xs) zs) (sym s.is)
    (IsPermutation-trans (x ∷ xs) (x ∷ (s.front ++ s.back)) (s.front ++ x ∷ s.back) (IsPermutation-cons x xs (s.front ++ s.back) rest)
    (IsPermutation-sym (s.front ++ x ∷ s.back) (x ∷ (s.front ++ s.back)) (IsPermutation-middle s.front x s.back)))

range_on : (a n m : ℕ) → range_with_len a n ++ range_with_len (a + n) m ≡ range_with_len a (n + m)
range_on a zero m = let here : a + 0 ≡ a = omega arith in let all : m ≡ 0 + m = omega arith in ap (λ k. range_with_len k m) here ∙ ap (range_with_len a) all
range_on a (suc n) m =
    let here : a + suc n ≡ (a + 1) + n = omega arith in
    let all : suc (n + m) ≡ suc n + m = omega arith in
    ap (λ xs. a ∷ xs) (ap (λ k. range_with_len (a + 1) n ++ range_with_len k m) here ∙ range_on (a + 1) n m) ∙ ap (range_with_len a) all

-- the first numbers are among more of them
pub first_among : (xs : List ℕ) (n count : ℕ) → n ≤ count → IsPermutation xs (range_with_len 0 n) → SubBag xs (range_with_len 0 count)
first_among xs n count within same =
    let rest : List ℕ = range_with_len (0 + n) (count - n) in
    let whole : range_with_len 0 n ++ rest ≡ range_with_len 0 count = let all : n + (count - n) ≡ count = omega (arith, within) in range_on 0 n (count - n) ∙ ap (range_with_len 0) all in
    (rest, subst (IsPermutation (xs ++ rest)) whole (IsPermutation-append_left rest xs (range_with_len 0 n) same))
