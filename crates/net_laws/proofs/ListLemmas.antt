-- Lists that are gathered, and lists of which few of many give some.
use Rattle.std.proofs.Common.{◌≡◌, ℕ, ◌<◌, ◌≤◌, zero, suc, List, [], ◌∷◌, ◌++◌, ◌⊎◌, inl, inr, length, Some, subst, refl, ap, ◌∙◌, arith}
use Rattle.std.specs.Prelude.{None, get_or, All, flat_map, slice_get}
use Rattle.std.proofs.lemmas.Bool.{cases_lt}
use Rattle.std.proofs.lemmas.List.{append-nil}
use Rattle.std.proofs.lemmas.Option.{slice_get_cases}
use Rattle.std.proofs.lemmas.List.Elements.{All-append, All-cons, All-head, All-nil, All-tail}
use Rattle.bag_laws.specs.Gather.{gather}

module _ {X : Type 0} where
  some_or : (xs ys : List X) → 0 < length (xs ++ ys) → (0 < length xs) ⊎ (0 < length ys)
  some_or [] ys some = inr some
  some_or (x ∷ xs) ys some = inl (omega arith)

  some_here : (n : ℕ) (lists : ℕ → List X) → (0 < length (gather n lists) → (k : ℕ) × (k < n) × (0 < length (lists k)))
      → (0 < length (gather n lists)) ⊎ (0 < length (lists n)) → (k : ℕ) × (k < suc n) × (0 < length (lists k))
  some_here n lists rest (inl before) = let found = rest before in (found.0, omega (arith, found.1), found.2)
  some_here n lists rest (inr last) = (n, omega arith, last)

  -- where anything was gathered, one of the lists has some
  pub some_gathered : (n : ℕ) (lists : ℕ → List X) → 0 < length (gather n lists) → (k : ℕ) × (k < n) × (0 < length (lists k))
  some_gathered zero lists some = absurd (omega (arith, some))
  some_gathered (suc n) lists some = some_here n lists (some_gathered n lists) (some_or (gather n lists) (lists n) some)

module _ {X : Type 0} (P : X → Type 0) where
  pub All-one : (x : X) → P x → All P (x ∷ [])
  All-one x is = All-cons P x [] is (All-nil P)

  pub All-left : (xs ys : List X) → All P (xs ++ ys) → All P xs
  All-left [] ys all = All-nil P
  All-left (x ∷ xs) ys all = All-cons P x xs (All-head P x (xs ++ ys) all) (All-left xs ys (All-tail P x (xs ++ ys) all))

  pub All-right : (xs ys : List X) → All P (xs ++ ys) → All P ys
  All-right [] ys all = all
  All-right (x ∷ xs) ys all = All-right xs ys (All-tail P x (xs ++ ys) all)

  pub All-gather : (n : ℕ) (lists : ℕ → List X) → ((k : ℕ) → k < n → All P (lists k)) → All P (gather n lists)
  All-gather zero lists each = All-nil P
  All-gather (suc n) lists each = All-append P (gather n lists) (lists n) (All-gather n lists (λ k below. each k (omega arith))) (each n (omega arith))

  gathered_at : (n : ℕ) (lists : ℕ → List X) (k : ℕ) → k < suc n → (k < n → All P (lists k)) → All P (lists n) → (k < n) ⊎ (n ≤ k) → All P (lists k)
  gathered_at n lists k below rest last (inl before) = rest before
  gathered_at n lists k below rest last (inr not_before) =
      let same : n ≡ k = omega (arith, below, not_before) in
      subst (λ (j : ℕ). All P (lists j)) same last

  pub All-gathered : (n : ℕ) (lists : ℕ → List X) → All P (gather n lists) → (k : ℕ) → k < n → All P (lists k)
  All-gathered zero lists all k below = absurd (omega (arith, below))
  All-gathered (suc n) lists all k below =
      gathered_at n lists k below (λ before. All-gathered n lists (All-left (gather n lists) (lists n) all) k before) (All-right (gather n lists) (lists n) all) (cases_lt k n)

pub same_some : {X : Type 0} {x y : X} → Some x ≡ Some y → x ≡ y
same_some e = cc

pub same_one : {X : Type 0} {x y : X} → x ∷ [] ≡ y ∷ [] → x ≡ y
same_one e = cc

module _ {X Y : Type 0} (f : X → List Y) where
  none_flat : (xs : List X) → ((k : ℕ) (x : X) → slice_get xs k ≡ Some x → f x ≡ []) → flat_map f xs ≡ []
  none_flat [] none = refl
  none_flat (x ∷ xs) none = λ i. none 0 x refl i ++ none_flat xs (λ k y there. none (suc k) y there) i

  -- all but one give nothing
  pub one_flat : (xs : List X) (i : ℕ) (x : X) → slice_get xs i ≡ Some x → ((k : ℕ) (y : X) → slice_get xs k ≡ Some y → ¬ (k ≡ i) → f y ≡ []) → flat_map f xs ≡ f x
  one_flat [] i x there others = absurd (cc)
  one_flat (y ∷ xs) zero x there others =
      ap (λ items. f y ++ items) (none_flat xs (λ k z is. others (suc k) z is (λ same. absurd (omega (arith, same))))) ∙ append-nil (f y) ∙ ap f (same_some there)
  one_flat (y ∷ xs) (suc i) x there others =
      ap (λ items. items ++ flat_map f xs) (others 0 y refl (λ same. absurd (omega (arith, same))))
      ∙ one_flat xs i x there (λ k z is apart. others (suc k) z is (λ same. apart (omega (arith, same))))

  -- all but two give nothing
  pub two_flat : (xs : List X) (i j : ℕ) (x y : X) → slice_get xs i ≡ Some x → slice_get xs j ≡ Some y → i < j
      → ((k : ℕ) (z : X) → slice_get xs k ≡ Some z → ¬ (k ≡ i) → ¬ (k ≡ j) → f z ≡ []) → flat_map f xs ≡ f x ++ f y
  two_flat [] i j x y first second less others = absurd (cc)
  two_flat (z ∷ xs) i zero x y first second less others = absurd (omega (arith, less))
  two_flat (z ∷ xs) zero (suc j) x y first second less others =
      λ i. f (same_some first i) ++ one_flat xs j y second (λ k w is apart. others (suc k) w is (λ same. absurd (omega (arith, same))) (λ same. apart (omega (arith, same)))) i
  two_flat (z ∷ xs) (suc i) (suc j) x y first second less others =
      ap (λ items. items ++ flat_map f xs) (others 0 z refl (λ same. absurd (omega (arith, same))) (λ same. absurd (omega (arith, same))))
      ∙ two_flat xs i j x y first second (omega (arith, less)) (λ k w is apart from. others (suc k) w is (λ same. apart (omega (arith, same))) (λ same. from (omega (arith, same))))

  -- what holds of all that they give holds of what one gives
  pub All-flat_at : (P : Y → Type 0) (xs : List X) (i : ℕ) (x : X) → slice_get xs i ≡ Some x → All P (flat_map f xs) → All P (f x)
  All-flat_at P [] i x there all = absurd (cc)
  All-flat_at P (y ∷ xs) zero x there all = subst (λ z. All P (f z)) (same_some there) (All-left P (f y) (flat_map f xs) all)
  All-flat_at P (y ∷ xs) (suc i) x there all = All-flat_at P xs i x there (All-right P (f y) (flat_map f xs) all)

-- what is found at a place of a list
pub record Found {X : Type 0} (xs : List X) (i : ℕ) : Type 0 where
  pub item : X
  pub there : slice_get xs i ≡ Some item
  pub is : get_or xs i item ≡ item

pub found : {X : Type 0} (xs : List X) (i : ℕ) → i < length xs → Found xs i
found xs i within = either (slice_get_cases xs i).1
  where
    either : ((x : _) × (i < length xs) × (slice_get xs i ≡ Some x) × (get_or xs i x ≡ x)) ⊎ ((length xs ≤ i) × (slice_get xs i ≡ None)) → Found xs i
    either (inl here) = record { item = here.0; there = here.2; is = here.3 }
    either (inr past) = absurd (omega (arith, past.0, within))
