-- Each item once: over filters, lists behind one another, and bags.
use Rattle.std.proofs.Common.{◌≡◌, ℕ, ◌+◌, zero, suc, List, [], ◌∷◌, ◌++◌, Bool, true, false, refl, ap, sym, ◌∙◌, arith, ◌⊎◌, inl, inr}
use Rattle.std.specs.Prelude.{filter, not, sum_by, if◌then◌else◌}
use Rattle.std.specs.Bool.{Decides}
use Rattle.std.proofs.lemmas.Bool.{true≢false}
use Rattle.std.proofs.lemmas.List.Sums.{sum_by-cons}
use Rattle.std.proofs.lemmas.List.Elements.{filter-append}
use Rattle.relation_laws.specs.Groups.{distinct}
use Rattle.relation_laws.proofs.BagLemmas.{by_permutation}
use Rattle.bag_laws.specs.Weights.{SameWeights}
use Rattle.bag_laws.specs.Gather.{gather}
use Rattle.bag_laws.specs.Buckets.{Sits}
use Rattle.bag_laws.proofs.BagLemmas.{permutation_from_same, same-append_comm, same-append, same-filter, same-from_equal, same-trans}
use Rattle.bag_laws.proofs.BucketLemmas.{filter-every, sits-cons, sits-filter, sits-head, sits-nil, sits-tail}
use Rattle.bag_laws.proofs.FilterLemmas.{both, filter-both, filter-clash, filter-exchange, filter-skip}

module _ {X : Type 0} (same : X → X → Bool) (decides : (x y : X) → Decides (same x y) (x ≡ y)) where
  -- items other than x
  abbrev other : X → X → Bool
  other x y = not (same x y)

  differ : (x y : X) (b : Bool) → same x y ≡ b → ¬ (x ≡ y) → other x y ≡ true
  differ x y true e ne = absurd (ne ((decides x y).0 e))
  differ x y false e ne = ap not e

  agree : (x y : X) → same x y ≡ true → other x y ≡ false
  agree x y e = ap not e

  distinct_at : (p : X → Bool) (x : X) (A : List X) (b : Bool) → p x ≡ b → distinct same (filter p A) ≡ filter p (distinct same A)
      → distinct same (if b then x ∷ filter p A else filter p A) ≡ (if b then x ∷ filter p (filter (other x) (distinct same A)) else filter p (filter (other x) (distinct same A)))
  distinct_at p x A true e h = ap (λ items. x ∷ items) (ap (filter (other x)) h ∙ filter-exchange (other x) p (distinct same A))
  distinct_at p x A false e h =
      h ∙ sym (filter-skip p (other x) (λ y py. differ x y (same x y) refl (λ xy. true≢false (sym py ∙ ap p (sym xy) ∙ e))) (distinct same A))

  pub distinct-filter : (p : X → Bool) (A : List X) → distinct same (filter p A) ≡ filter p (distinct same A)
  distinct-filter p [] = refl
  distinct-filter p (x ∷ A) = distinct_at p x A (p x) refl (distinct-filter p A)

  pub distinct-distinct : (A : List X) → distinct same (distinct same A) ≡ distinct same A
  distinct-distinct [] = refl
  distinct-distinct (x ∷ A) =
      ap (λ items. x ∷ items)
      (ap (filter (other x)) (distinct-filter (other x) (distinct same A) ∙ ap (filter (other x)) (distinct-distinct A))
      ∙ filter-skip (other x) (other x) (λ y e. e) (distinct same A))

  distinct-right : (A B : List X) → distinct same (A ++ distinct same B) ≡ distinct same (A ++ B)
  distinct-right [] B = distinct-distinct B
  distinct-right (x ∷ A) B = ap (λ items. x ∷ filter (other x) items) (distinct-right A B)

  distinct-left : (A B : List X) → distinct same (distinct same A ++ B) ≡ distinct same (A ++ B)
  distinct-left [] B = refl
  distinct-left (x ∷ A) B =
      let D = distinct same A in
      let without : filter (other x) (filter (other x) D ++ B) ≡ filter (other x) (D ++ B)
      = filter-append (other x) (filter (other x) D) B ∙ ap (λ items. items ++ filter (other x) B) (filter-skip (other x) (other x) (λ y e. e) D)
      ∙ sym (filter-append (other x) D B) in
      ap (λ items. x ∷ items)
      (sym (distinct-filter (other x) (filter (other x) D ++ B)) ∙ ap (distinct same) without ∙ distinct-filter (other x) (D ++ B) ∙ ap (filter (other x)) (distinct-left A B))

  -- each once of all, from each once of every part
  pub distinct-append : (A B : List X) → distinct same (distinct same A ++ distinct same B) ≡ distinct same (A ++ B)
  distinct-append A B = distinct-right (distinct same A) B ∙ distinct-left A B

  pub distinct-gather : (n : ℕ) (lists : ℕ → List X) → distinct same (gather n (λ k. distinct same (lists k))) ≡ distinct same (gather n lists)
  distinct-gather zero lists = refl
  distinct-gather (suc n) lists =
      sym (distinct-left (gather n (λ k. distinct same (lists k))) (distinct same (lists n)))
      ∙ ap (λ items. distinct same (items ++ distinct same (lists n))) (distinct-gather n lists)
      ∙ distinct-append (gather n lists) (lists n)

  pub sits-distinct : (p : X → Bool) (A : List X) → Sits p A → Sits p (distinct same A)
  sits-distinct p [] s = sits-nil p
  sits-distinct p (x ∷ A) s =
      sits-cons p x (filter (other x) (distinct same A)) (sits-head p x A s) (sits-filter p (other x) (distinct same A) (sits-distinct p A (sits-tail p x A s)))

  -- an item does not occur, or it is found once
  once_at : (key x : X) (A : List X) (b : Bool) → same key x ≡ b
      → (filter (same key) A ≡ []) × (filter (same key) (distinct same A) ≡ []) ⊎ (filter (same key) (distinct same A) ≡ key ∷ [])
      → (filter (same key) (x ∷ A) ≡ []) × (filter (same key) (distinct same (x ∷ A)) ≡ []) ⊎ (filter (same key) (distinct same (x ∷ A)) ≡ key ∷ [])
  once_at key x A true e h =
      let D = distinct same A in
      let here : filter (same key) (filter (other x) D) ≡ []
      = filter-clash (same key) (other x) (λ y ky. agree x y ((decides x y).1 (sym ((decides key x).0 e) ∙ (decides key y).0 ky))) D in
      inr ((λ i. if e i then x ∷ here i else here i) ∙ ap (λ y. y ∷ []) (sym ((decides key x).0 e)))
  once_at key x A false e h =
      let D = distinct same A in
      let there : filter (same key) (filter (other x) D) ≡ filter (same key) D
      = filter-skip (same key) (other x) (λ y ky. differ x y (same x y) refl (λ xy. true≢false (sym ky ∙ ap (same key) (sym xy) ∙ e))) D in
      let front : (items : List X) → (if same key x then x ∷ items else items) ≡ items = λ items. ap (λ b. if b then x ∷ items else items) e in
      elim h as (λ _. (filter (same key) (x ∷ A) ≡ []) × (filter (same key) (distinct same (x ∷ A)) ≡ []) ⊎ (filter (same key) (distinct same (x ∷ A)) ≡ key ∷ [])) [
        | inl none ↦ inl (front (filter (same key) A) ∙ none.0, front (filter (same key) (filter (other x) D)) ∙ there ∙ none.1)
        | inr one ↦ inr (front (filter (same key) (filter (other x) D)) ∙ there ∙ one)
      ]

  pub distinct-once : (key : X) (A : List X) → (filter (same key) A ≡ []) × (filter (same key) (distinct same A) ≡ []) ⊎ (filter (same key) (distinct same A) ≡ key ∷ [])
  distinct-once key [] = inl (refl, refl)
  distinct-once key (x ∷ A) = once_at key x A (same key x) refl (distinct-once key A)

  -- what is once in a list does not depend on its order
  two_first : (x y : X) (A : List X) → ¬ (x ≡ y) → distinct same (x ∷ y ∷ A) ≡ x ∷ y ∷ filter (other x) (filter (other y) (distinct same A))
  two_first x y A ne =
      ap (λ b. x ∷ (if b then y ∷ filter (other x) (filter (other y) (distinct same A)) else filter (other x) (filter (other y) (distinct same A)))) (differ x y (same x y) refl ne)

  swap_at : (x y : X) (A : List X) (b : Bool) → same x y ≡ b → SameWeights (distinct same (x ∷ y ∷ A)) (distinct same (y ∷ x ∷ A))
  swap_at x y A true e = let xy = (decides x y).0 e in same-from_equal (λ i. distinct same (xy i ∷ sym xy i ∷ A))
  swap_at x y A false e =
      let D = distinct same A in
      let ne : ¬ (x ≡ y) = λ xy. true≢false (sym ((decides x y).1 xy) ∙ e) in
      same-trans (same-from_equal (two_first x y A ne))
      (same-trans (same-append (same-append_comm (x ∷ []) (y ∷ [])) (same-from_equal (filter-exchange (other x) (other y) D)))
      (same-from_equal (sym (two_first y x A (λ yx. ne (sym yx))))))

  -- what the items that pass a test weigh, each taken once
  abbrev once_weight : List X → (X → Bool) → (X → ℕ) → ℕ
  once_weight A p h = sum_by h (filter p (distinct same A))

  once_cons : (x : X) (A : List X) (p : X → Bool) (h : X → ℕ) → (b : Bool) → p x ≡ b → once_weight (x ∷ A) p h ≡ (if b then h x else 0) + once_weight A (both (other x) p) h
  once_cons x A p h true e =
      let F = filter p (filter (other x) (distinct same A)) in
      ap (λ b. sum_by h (if b then x ∷ F else F)) e ∙ sum_by-cons h x F ∙ ap (λ items. h x + sum_by h items) (filter-both p (other x) (distinct same A))
  once_cons x A p h false e =
      let F = filter p (filter (other x) (distinct same A)) in
      ap (λ b. sum_by h (if b then x ∷ F else F)) e ∙ ap (sum_by h) (filter-both p (other x) (distinct same A)) ∙ omega arith

  once_follows : (x : X) (A B : List X) → once_weight A ≡ once_weight B → once_weight (x ∷ A) ≡ once_weight (x ∷ B)
  once_follows x A B e = λ i p h. (once_cons x A p h (p x) refl ∙ (λ j. (if p x then h x else 0) + e j (both (other x) p) h) ∙ sym (once_cons x B p h (p x) refl)) i

  once_swaps : (x y : X) (A : List X) → once_weight (x ∷ y ∷ A) ≡ once_weight (y ∷ x ∷ A)
  once_swaps x y A = λ i p h. (same-filter p (swap_at x y A (same x y) refl)).weighs h i

  all_kept : (h : X → ℕ) (A : List X) → once_weight A (λ x. true) h ≡ sum_by h (distinct same A)
  all_kept h A = ap (sum_by h) (filter-every (λ x. true) (λ x. refl) (distinct same A))

  pub same-distinct : {A B : List X} → SameWeights A B → SameWeights (distinct same A) (distinct same B)
  same-distinct {A} {B} s =
      let e : once_weight A ≡ once_weight B = by_permutation same decides once_weight once_swaps once_follows A B (permutation_from_same same decides A B s) in
      record { weighs = λ h. sym (all_kept h A) ∙ (λ i. e i (λ x. true) h) ∙ all_kept h B }
