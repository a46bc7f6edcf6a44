-- Two filters, one behind the other.
use Rattle.std.proofs.Common.{◌≡◌, List, [], ◌∷◌, Bool, true, false, refl, ap, sym, ◌∙◌, map}
use Rattle.std.specs.Prelude.{filter, if◌then◌else◌}
use Rattle.std.proofs.lemmas.List.Elements.{filter_agree}
use Rattle.bag_laws.proofs.BucketLemmas.{filter-no}

swapped : (b c : Bool) → (if b then c else false) ≡ (if c then b else false)
swapped true true = refl
swapped true false = refl
swapped false true = refl
swapped false false = refl

skipped : (b c : Bool) → (c ≡ true → b ≡ true) → (if b then c else false) ≡ c
skipped true c h = refl
skipped false true h = h refl
skipped false false h = refl

clashing : (b c : Bool) → (c ≡ true → b ≡ false) → (if b then c else false) ≡ false
clashing true true h = h refl
clashing true false h = refl
clashing false c h = refl

module _ {X : Type 0} where
  -- the first test, then the second one
  abbrev pub both : (X → Bool) → (X → Bool) → X → Bool
  both q p x = if q x then p x else false

  both_at : (p : X → Bool) (x : X) (A B : List X) (b : Bool) → filter p A ≡ B → filter p (if b then x ∷ A else A) ≡ (if (if b then p x else false) then x ∷ B else B)
  both_at p x A B true e = λ i. if p x then x ∷ e i else e i
  both_at p x A B false e = e

  pub filter-both : (p q : X → Bool) (A : List X) → filter p (filter q A) ≡ filter (both q p) A
  filter-both p q [] = refl
  filter-both p q (x ∷ A) = both_at p x (filter q A) (filter (both q p) A) (q x) (filter-both p q A)

  pub filter-exchange : (p q : X → Bool) (A : List X) → filter p (filter q A) ≡ filter q (filter p A)
  filter-exchange p q A = filter-both p q A ∙ filter_agree (both q p) (both p q) (λ x. swapped (q x) (p x)) A ∙ sym (filter-both q p A)

  -- what passes p passes q
  pub filter-skip : (p q : X → Bool) → ((x : X) → p x ≡ true → q x ≡ true) → (A : List X) → filter p (filter q A) ≡ filter p A
  filter-skip p q each A = filter-both p q A ∙ filter_agree (both q p) p (λ x. skipped (q x) (p x) (each x)) A

  -- what passes p does not pass q
  pub filter-clash : (p q : X → Bool) → ((x : X) → p x ≡ true → q x ≡ false) → (A : List X) → filter p (filter q A) ≡ []
  filter-clash p q each A = filter-both p q A ∙ filter-no (both q p) (λ x. clashing (q x) (p x) (each x)) A

module _ {X Y : Type 0} where
  map_at : (p : Y → Bool) (f : X → Y) (x : X) (A : List X) (B : List Y) (b : Bool) → B ≡ map f A → (if b then f x ∷ B else B) ≡ map f (if b then x ∷ A else A)
  map_at p f x A B true e = ap (λ ys. f x ∷ ys) e
  map_at p f x A B false e = e

  pub filter-map : (p : Y → Bool) (f : X → Y) (A : List X) → filter p (map f A) ≡ map f (filter (λ x. p (f x)) A)
  filter-map p f [] = refl
  filter-map p f (x ∷ A) = map_at p f x (filter (λ y. p (f y)) A) (filter p (map f A)) (p (f x)) (filter-map p f A)
