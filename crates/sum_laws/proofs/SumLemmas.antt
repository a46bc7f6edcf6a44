-- Sums over a list of which one item changes.
use Rattle.std.proofs.Common.{◌≡◌, ℕ, zero, suc, ◌+◌, ◌<◌, ◌≤◌, List, [], ◌∷◌, ◌++◌, set, refl, sym, ap, ◌∙◌, subst, arith}
use Rattle.std.specs.Prelude.{sum_by}
use Rattle.std.specs.List.{range_with_len}
use Rattle.std.proofs.lemmas.List.Sums.{sum_by-cons, sum_by_push}
use mathlib.Core.Option.{some, some-injective, some-ne-none}
use lib.ListN.{get_elem?}

pub range_push : (a n : ℕ) → range_with_len a (suc n) ≡ range_with_len a n ++ (a + n) ∷ []
range_push a zero = ap (λ k. k ∷ []) (omega arith)
range_push a (suc n) = ap (λ xs. a ∷ xs) (range_push (a + 1) n ∙ ap (λ k. range_with_len (a + 1) n ++ k ∷ []) (omega arith))

pub sum_range : (h : ℕ → ℕ) (n : ℕ) → sum_by h (range_with_len 0 (suc n)) ≡ sum_by h (range_with_len 0 n) + h n
sum_range h n = ap (sum_by h) (range_push 0 n ∙ ap (λ k. range_with_len 0 n ++ k ∷ []) (omega arith)) ∙ sum_by_push h (range_with_len 0 n) n

module _ {A : Type 0} (f : A → ℕ) where
  pub sum_by-put : (xs : List A) (i : ℕ) (x y : A) → get_elem? xs i ≡ some x → sum_by f (set xs i y) + f x ≡ sum_by f xs + f y
  sum_by-put [] i x y e = absurd (some-ne-none x (sym e))
  sum_by-put (z ∷ zs) zero x y e = subst (λ u. sum_by f (y ∷ zs) + f u ≡ sum_by f (z ∷ zs) + f y) (some-injective z x e) (omega (arith, sum_by-cons f y zs, sum_by-cons f z zs))
  sum_by-put (z ∷ zs) (suc i) x y e = omega (arith, sum_by-cons f z (set zs i y), sum_by-cons f z zs, sum_by-put zs i x y e)

  module _ (g : A → ℕ) where
    pub sum_by-nothing : (xs : List A) → ((i : ℕ) (x : A) → get_elem? xs i ≡ some x → g x ≡ 0 → f x ≡ 0) → sum_by g xs ≡ 0 → sum_by f xs ≡ 0
    sum_by-nothing [] all e = refl
    sum_by-nothing (x ∷ xs) all e =
        omega (arith, sum_by-cons f x xs, sum_by-cons g x xs, e, all 0 x refl (omega (arith, sum_by-cons g x xs, e)), sum_by-nothing xs (λ i y at. all (suc i) y at) (omega (arith, sum_by-cons g x xs, e)))

    -- where one item has all of g, it has all of f
    pub sum_by-alone : (xs : List A) (i : ℕ) (x : A) → ((i : ℕ) (x : A) → get_elem? xs i ≡ some x → g x ≡ 0 → f x ≡ 0) → get_elem? xs i ≡ some x → sum_by g xs ≡ g x → sum_by f xs ≡ f x
    sum_by-alone [] i x all at e = absurd (some-ne-none x (sym at))
    sum_by-alone (z ∷ zs) zero x all at e =
        let same : z ≡ x = some-injective z x at in
        let none : sum_by f zs ≡ 0 = sum_by-nothing zs (λ j y there. all (suc j) y there) (omega (arith, sum_by-cons g z zs, e, ap g same)) in
        omega (arith, sum_by-cons f z zs, none, ap f same)
    sum_by-alone (z ∷ zs) (suc i) x all at e =
        let front : g z ≡ 0 = zero_front zs i x at z e in
        omega (arith, sum_by-cons f z zs, all 0 z refl front, sum_by-alone zs i x (λ j y there. all (suc j) y there) at (omega (arith, sum_by-cons g z zs, e, front)))
      where
        among : (xs : List A) (i : ℕ) (x : A) → get_elem? xs i ≡ some x → (rest : ℕ) × (sum_by g xs ≡ g x + rest)
        among [] i x at = absurd (some-ne-none x (sym at))
        among (y ∷ ys) zero x at = (sum_by g ys, sum_by-cons g y ys ∙ ap (λ u. g u + sum_by g ys) (some-injective y x at))
        among (y ∷ ys) (suc i) x at = let t = among ys i x at in (g y + t.0, omega (arith, sum_by-cons g y ys, t.1))

        zero_front : (xs : List A) (i : ℕ) (x : A) → get_elem? xs i ≡ some x → (z : A) → sum_by g (z ∷ xs) ≡ g x → g z ≡ 0
        zero_front xs i x at z e = let t = among xs i x at in omega (arith, t.1, sum_by-cons g z xs, e)

    -- the sum of what is nowhere more, and somewhere less, is less
    pub sum_by-most : (xs : List A) → ((i : ℕ) (x : A) → get_elem? xs i ≡ some x → f x ≤ g x) → sum_by f xs ≤ sum_by g xs
    sum_by-most [] all = omega arith
    sum_by-most (x ∷ xs) all = omega (arith, sum_by-cons f x xs, sum_by-cons g x xs, all 0 x refl, sum_by-most xs (λ i y at. all (suc i) y at))

    pub sum_by-below : (xs : List A) (i : ℕ) (x : A) → ((i : ℕ) (x : A) → get_elem? xs i ≡ some x → f x ≤ g x) → get_elem? xs i ≡ some x → f x < g x → sum_by f xs < sum_by g xs
    sum_by-below [] i x all at less = absurd (some-ne-none x (sym at))
    sum_by-below (z ∷ zs) zero x all at less =
        let same : z ≡ x = some-injective z x at in
        omega (arith, sum_by-cons f z zs, sum_by-cons g z zs, ap f same, ap g same, less, sum_by-most zs (λ j y there. all (suc j) y there))
    sum_by-below (z ∷ zs) (suc i) x all at less = omega (arith, sum_by-cons f z zs, sum_by-cons g z zs, all 0 z refl, sum_by-below zs i x (λ j y there. all (suc j) y there) at less)
