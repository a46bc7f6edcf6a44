-- Lists that weigh the same, and what keeps that.
use Rattle.std.proofs.Common.{◌≡◌, ℕ, ◌+◌, List, [], ◌∷◌, ◌++◌, Bool, true, false, refl, ap, sym, ◌∙◌, arith, length, map, subst}
use Rattle.std.specs.Prelude.{IsPermutation, filter, flat_map, sum_by, if◌then◌else◌}
use Rattle.std.specs.Bool.{Decides}
use Rattle.std.proofs.lemmas.List.{nil_from_length}
use Rattle.std.proofs.lemmas.List.Sums.{sum_by-append, sum_by-cons}
use Rattle.std.proofs.lemmas.List.Sorted.{sum_by-IsPermutation, IsPermutation-refl, IsPermutation-sym, IsPermutation-cons, IsPermutation-trans, IsPermutation-middle}
use Rattle.sql_values.specs.declared.value.Value.{Value}
use Rattle.sql_values.specs.Bags.{SameBag}
use Rattle.relation_laws.specs.Equality.{same_row}
use Rattle.relation_laws.proofs.BagLemmas.{Split, found, hit, hit_itself}
use Rattle.relation_laws.proofs.EqualityLemmas.{same_row_decides}
use Rattle.bag_laws.specs.Weights.{SameWeights}

module _ {X : Type 0} where
  pub same-refl : (A : List X) → SameWeights A A
  same-refl A = record { weighs = λ h. refl }

  pub same-sym : {A B : List X} → SameWeights A B → SameWeights B A
  same-sym s = record { weighs = λ h. sym (s.weighs h) }

  pub same-trans : {A B C : List X} → SameWeights A B → SameWeights B C → SameWeights A C
  same-trans s t = record { weighs = λ h. s.weighs h ∙ t.weighs h }

  pub same-from_equal : {A B : List X} → A ≡ B → SameWeights A B
  same-from_equal e = record { weighs = λ h. ap (sum_by h) e }

  pub same-append : {A B C D : List X} → SameWeights A B → SameWeights C D → SameWeights (A ++ C) (B ++ D)
  same-append {A} {B} {C} {D} s t = record { weighs = λ h. omega (arith, s.weighs h, t.weighs h, sum_by-append h A C, sum_by-append h B D) }

  pub same-append_comm : (A B : List X) → SameWeights (A ++ B) (B ++ A)
  same-append_comm A B = record { weighs = λ h. omega (arith, sum_by-append h A B, sum_by-append h B A) }

  -- the lists in the middle change places
  pub same-exchange : (A B C D : List X) → SameWeights ((A ++ B) ++ (C ++ D)) ((A ++ C) ++ (B ++ D))
  same-exchange A B C D = record {
    weighs = λ h. omega (
      arith,
      sum_by-append h (A ++ B) (C ++ D),
      sum_by-append h A B,
      sum_by-append h C D,
      sum_by-append h (A ++ C) (B ++ D),
      sum_by-append h A C,
      sum_by-append h B D,
    );
  }

  pub same-cancel_left : (A : List X) {B C : List X} → SameWeights (A ++ B) (A ++ C) → SameWeights B C
  same-cancel_left A {B} {C} s = record { weighs = λ h. omega (arith, s.weighs h, sum_by-append h A B, sum_by-append h A C) }

  pub same-cons : (x : X) {A B : List X} → SameWeights A B → SameWeights (x ∷ A) (x ∷ B)
  same-cons x {A} {B} s = record { weighs = λ h. omega (arith, s.weighs h, sum_by-cons h x A, sum_by-cons h x B) }

  -- where all items weigh the same
  pub weight-agree : (f g : X → ℕ) → ((x : X) → f x ≡ g x) → (A : List X) → sum_by f A ≡ sum_by g A
  weight-agree f g each [] = refl
  weight-agree f g each (x ∷ A) = omega (arith, each x, weight-agree f g each A, sum_by-cons f x A, sum_by-cons g x A)

  pub weight-sum : (f g : X → ℕ) (A : List X) → sum_by (λ x. f x + g x) A ≡ sum_by f A + sum_by g A
  weight-sum f g [] = refl
  weight-sum f g (x ∷ A) = omega (arith, weight-sum f g A, sum_by-cons (λ y. f y + g y) x A, sum_by-cons f x A, sum_by-cons g x A)

  pub length_by_weights : (A : List X) → length A ≡ sum_by (λ x. 1) A
  length_by_weights [] = refl
  length_by_weights (x ∷ A) = omega (arith, length_by_weights A, sum_by-cons (λ (y : X). 1) x A)

  pub same-length : {A B : List X} → SameWeights A B → length A ≡ length B
  same-length {A} {B} s = length_by_weights A ∙ s.weighs (λ x. 1) ∙ sym (length_by_weights B)

  pub same-nil : {A : List X} → SameWeights A [] → A ≡ []
  same-nil {A} s = nil_from_length A (same-length s)

-- what images weigh
module _ {X Y : Type 0} where
  pub weight-map : (h : Y → ℕ) (f : X → Y) (A : List X) → sum_by h (map f A) ≡ sum_by (λ x. h (f x)) A
  weight-map h f [] = refl
  weight-map h f (x ∷ A) = omega (arith, weight-map h f A, sum_by-cons h (f x) (map f A), sum_by-cons (λ y. h (f y)) x A)

  pub weight-flat_map : (h : Y → ℕ) (f : X → List Y) (A : List X) → sum_by h (flat_map f A) ≡ sum_by (λ x. sum_by h (f x)) A
  weight-flat_map h f [] = refl
  weight-flat_map h f (x ∷ A) = omega (arith, weight-flat_map h f A, sum_by-append h (f x) (flat_map f A), sum_by-cons (λ y. sum_by h (f y)) x A)

  pub same-map : (f : X → Y) {A B : List X} → SameWeights A B → SameWeights (map f A) (map f B)
  same-map f {A} {B} s = record { weighs = λ h. weight-map h f A ∙ s.weighs (λ x. h (f x)) ∙ sym (weight-map h f B) }

  pub same-flat_map : (f : X → List Y) {A B : List X} → SameWeights A B → SameWeights (flat_map f A) (flat_map f B)
  same-flat_map f {A} {B} s = record { weighs = λ h. weight-flat_map h f A ∙ s.weighs (λ x. sum_by h (f x)) ∙ sym (weight-flat_map h f B) }

  pub same-flat_map_each : (f g : X → List Y) → ((x : X) → SameWeights (f x) (g x)) → (A : List X) → SameWeights (flat_map f A) (flat_map g A)
  same-flat_map_each f g each [] = same-refl []
  same-flat_map_each f g each (x ∷ A) = same-append (each x) (same-flat_map_each f g each A)

module _ {X : Type 0} where
  weight-filter_at : (h : X → ℕ) (x : X) (A : List X) (b : Bool) → sum_by h (if b then x ∷ A else A) ≡ (if b then h x else 0) + sum_by h A
  weight-filter_at h x A true = sum_by-cons h x A
  weight-filter_at h x A false = omega arith

  pub weight-filter : (h : X → ℕ) (p : X → Bool) (A : List X) → sum_by h (filter p A) ≡ sum_by (λ x. if p x then h x else 0) A
  weight-filter h p [] = refl
  weight-filter h p (x ∷ A) = omega (arith, weight-filter h p A, weight-filter_at h x (filter p A) (p x), sum_by-cons (λ y. if p y then h y else 0) x A)

  pub same-filter : (p : X → Bool) {A B : List X} → SameWeights A B → SameWeights (filter p A) (filter p B)
  same-filter p {A} {B} s = record { weighs = λ h. weight-filter h p A ∙ s.weighs (λ x. if p x then h x else 0) ∙ sym (weight-filter h p B) }

  pub same-from_permutation : {A B : List X} → IsPermutation A B → SameWeights A B
  same-from_permutation {A} {B} s = record { weighs = λ h. sym (sum_by-IsPermutation h A B s) }

-- where a test decides whether items are equal, items that weigh the same are permutations of one another
module _ {X : Type 0} (same : X → X → Bool) (decides : (x y : X) → Decides (same x y) (x ≡ y)) where
  pub permutation_from_same : (xs ys : List X) → SameWeights xs ys → IsPermutation xs ys
  permutation_from_same [] ys s = subst (IsPermutation []) (sym (same-nil (same-sym s))) (IsPermutation-refl [])
  permutation_from_same (x ∷ xs) ys s =
      let split : Split x ys = found same decides x ys (omega (arith, s.weighs (hit same decides x), hit_itself same decides x, sum_by-cons (hit same decides x) x xs)) in
      let moved : SameWeights (split.front ++ x ∷ split.back) (x ∷ (split.front ++ split.back)) = same-from_permutation (IsPermutation-middle split.front x split.back) in
      let rest : SameWeights xs (split.front ++ split.back) = same-cancel_left (x ∷ []) (same-trans (same-trans s (same-from_equal split.is)) moved) in
      IsPermutation-trans (x ∷ xs) (x ∷ (split.front ++ split.back)) ys
      (IsPermutation-cons x xs (split.front ++ split.back) (permutation_from_same xs (split.front ++ split.back) rest))
      (subst (IsPermutation (x ∷ (split.front ++ split.back))) (sym split.is)
      (IsPermutation-sym (split.front ++ x ∷ split.back) (x ∷ (split.front ++ split.back)) (IsPermutation-middle split.front x split.back)))

-- rows that weigh the same are the same bag
pub bag_from_same : (rows others : List (List Value)) → SameWeights rows others → SameBag rows others
bag_from_same rows others s = permutation_from_same same_row same_row_decides rows others s

pub same_from_bag : (rows others : List (List Value)) → SameBag rows others → SameWeights rows others
same_from_bag rows others s = same-from_permutation s
