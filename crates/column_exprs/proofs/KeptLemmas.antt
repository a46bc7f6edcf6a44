-- The positions that are kept for a part of an expression, and which of them stands for which place.
use Rattle.std.proofs.Common.{◌≡◌, ℕ, ◌+◌, ◌<◌, ◌≤◌, zero, suc, true, false, List, [], ◌∷◌, ◌++◌, length, get_or, take, refl, ap, sym, ◌∙◌, subst, arith, length-append, below_more}
use Rattle.std.specs.Prelude.{Bool, All, IsTrue, if◌then◌else◌}
use Rattle.std.proofs.lemmas.List.{append-nil, get_or_append_left, take_more, take_all}
use Rattle.std.proofs.lemmas.List.Elements.{All-append, All-nil}
use Rattle.std.proofs.Math.Seq.{get_or-append_seam}
use Rattle.sql_values.specs.declared.value.Value.{Value}
use Rattle.column_exprs.specs.declared.kept.Test.{Test}
use Rattle.column_exprs.specs.declared.operand.Operand.{Operand}
use Rattle.column_exprs.specs.Kept.{kept, meets}
use Rattle.column_exprs.specs.Operands.{HasCells, HasPlace}
use Rattle.column_exprs.proofs.OperandLemmas.{place_of}

one_if : (b : Bool) (p : ℕ) → length (if b then p ∷ [] else []) ≤ 1
one_if true p = omega arith
one_if false p = omega arith

true_if : (b : Bool) (p : ℕ) → 1 ≤ length (if b then p ∷ [] else []) → b ≡ true
true_if true p h = refl
true_if false p h = absurd (omega arith)

each_if : (P : ℕ → Type 0) (b : Bool) (p : ℕ) → (b ≡ true → P p) → All P (if b then p ∷ [] else [])
each_if P true p h = All-append P (p ∷ []) [] (λ i d n. let first : i ≡ 0 = omega arith in subst (λ j. P (get_or (p ∷ []) j d)) (sym first) (h refl)) (All-nil P)
each_if P false p h = All-nil P

module _ (test : Test) (values : ℕ → Value) (positions : List ℕ) where
  abbrev here : ℕ → List ℕ
  here n = if meets test (values n) then get_or positions n 0 ∷ [] else []

  pub kept_few : (n : ℕ) → length (kept test values positions n) ≤ n
  kept_few zero = omega arith
  kept_few (suc n) =
      omega (arith, kept_few n, one_if (meets test (values n)) (get_or positions n 0), length-append (kept test values positions n) (here n))

  last_true : (n : ℕ) → meets test (values n) ≡ true → kept test values positions (suc n) ≡ kept test values positions n ++ get_or positions n 0 ∷ []
  last_true n h = ap (λ (b : Bool). kept test values positions n ++ (if b then get_or positions n 0 ∷ [] else [])) h

  -- one position more
  pub kept_true : (n : ℕ) → meets test (values n) ≡ true → kept test values positions (n + 1) ≡ kept test values positions n ++ get_or positions n 0 ∷ []
  kept_true n h = let step : n + 1 ≡ suc n = omega arith in ap (kept test values positions) step ∙ last_true n h

  pub kept_false : (n : ℕ) → meets test (values n) ≡ false → kept test values positions (n + 1) ≡ kept test values positions n
  kept_false n h =
      let step : n + 1 ≡ suc n = omega arith in
      ap (kept test values positions) step ∙ ap (λ (b : Bool). kept test values positions n ++ (if b then get_or positions n 0 ∷ [] else [])) h
      ∙ append-nil (kept test values positions n)

  pub count_true : (n next : ℕ) → meets test (values n) ≡ true → next ≡ length (kept test values positions n) → next + 1 ≡ length (kept test values positions (n + 1))
  count_true n next h e = omega (arith, e, ap length (kept_true n h), length-append (kept test values positions n) (get_or positions n 0 ∷ []))

  pub count_false : (n next : ℕ) → meets test (values n) ≡ false → next ≡ length (kept test values positions n) → next ≡ length (kept test values positions (n + 1))
  count_false n next h e = e ∙ sym (ap length (kept_false n h))

  -- a place that is kept has its position at the place of its number among them
  pub record Stands (n k : ℕ) : Type 0 where
    pub few : length (kept test values positions k) < length (kept test values positions n)
    pub same : get_or (kept test values positions n) (length (kept test values positions k)) 0 ≡ get_or positions k 0

  pub stands : (n k : ℕ) → k < n → meets test (values k) ≡ true → Stands n k
  stands zero k l h = absurd (omega arith)
  stands (suc n) k l h =
      below_more (λ j. meets test (values j) ≡ true → Stands (suc n) j) n
      (λ j m i.
      let before = stands n j m i in
      record {
        few = omega (arith, before.few, length-append (kept test values positions n) (here n));
        same = get_or_append_left (kept test values positions n) (here n) 0 (length (kept test values positions j)) before.few ∙ before.same;
      })
      (λ i.
      let e = last_true n i in
      record {
        few = omega (arith, ap length e, length-append (kept test values positions n) (get_or positions n 0 ∷ []));
        same =
            ap (λ xs. get_or xs (length (kept test values positions n)) 0) e
            ∙ get_or-append_seam (kept test values positions n) (get_or positions n 0) [] 0;
      })
      k (omega (arith, l)) h

  -- as many as there are places are all
  first_all : (n : ℕ) → n ≤ length positions → n ≤ length (kept test values positions n) → kept test values positions n ≡ take n positions
  first_all zero le all = refl
  first_all (suc n) le all =
      let many = length-append (kept test values positions n) (here n) in
      let is : meets test (values n) ≡ true = true_if (meets test (values n)) (get_or positions n 0) (omega (arith, all, many, kept_few n)) in
      let step : n + 1 ≡ suc n = omega arith in
      last_true n is
      ∙ ap (λ xs. xs ++ get_or positions n 0 ∷ [])
      (first_all n (omega (arith, le)) (omega (arith, all, many, one_if (meets test (values n)) (get_or positions n 0))))
      ∙ sym (take_more positions n 0 (omega (arith, le))) ∙ ap (λ m. take m positions) step

  pub kept_all : length (kept test values positions (length positions)) ≡ length positions → kept test values positions (length positions) ≡ positions
  kept_all e = first_all (length positions) (omega arith) (omega (arith, e)) ∙ take_all (length positions) positions (omega arith)

  -- what holds of each position beside a value that meets the test holds of each that is kept
  first_each : (P : ℕ → Type 0) (n : ℕ) → n ≤ length positions → ((k : ℕ) → k < length positions → meets test (values k) ≡ true → P (get_or positions k 0)) → All P (kept test values positions n)
  first_each P zero le h = All-nil P
  first_each P (suc n) le h =
      All-append P (kept test values positions n) (here n) (first_each P n (omega (arith, le)) h)
      (each_if P (meets test (values n)) (get_or positions n 0) (h n (omega (arith, le))))

  pub kept_each : (P : ℕ → Type 0) → ((k : ℕ) → k < length positions → meets test (values k) ≡ true → P (get_or positions k 0)) → All P (kept test values positions (length positions))
  kept_each P h = first_each P (length positions) (omega arith) h

  pub kept_within : (m : ℕ) → All (λ p. p < m) positions → All (λ p. p < m) (kept test values positions (length positions))
  kept_within m all = kept_each (λ p. p < m) (λ k l h. all k 0 l)

  -- the count of those before a place, and of those up to it
  pub counted_on : (n next new : ℕ) (b : Bool) → b ≡ meets test (values n) → next ≡ length (kept test values positions n) → (IsTrue b → new ≡ next + 1) → (b ≡ false → new ≡ next)
      → new ≡ length (kept test values positions (n + 1))
  counted_on n next new true is e more same = more refl ∙ count_true n next (sym is) e
  counted_on n next new false is e more same = same refl ∙ count_false n next (sym is) e

  -- where a place is kept, an operand with a cell for each that is kept has one for it
  pub place_kept : (o : Operand) (k next : ℕ) (v : Value) → HasCells o (length (kept test values positions (length positions))) → k < length positions → v ≡ values k
      → next ≡ length (kept test values positions k) → IsTrue (meets test v) → HasPlace o next
  place_kept o k next v cells l e n h =
      let s = stands (length positions) k l (subst (λ u. meets test u ≡ true) e h) in
      place_of o (length (kept test values positions (length positions))) next cells (omega (arith, s.few, n))
