-- What does not depend on the order of two items at the front depends on no order.
use Rattle.std.proofs.Common.{◌≡◌, ℕ, ◌<◌, List, [], ◌∷◌, ◌++◌, Bool, true, false, refl, ap, sym, ◌∙◌, arith}
use Rattle.std.specs.Prelude.{IsPermutation, sum_by, if◌then◌else◌}
use Rattle.std.specs.Bool.{Decides}
use Rattle.std.proofs.lemmas.List.Sums.{sum_by-append, sum_by-cons}
use Rattle.std.proofs.lemmas.List.Sorted.{sum_by-IsPermutation}

-- x stands somewhere in the list
pub record Split {X : Type 0} (x : X) (items : List X) : Type 0 where
  pub front : List X
  pub back : List X
  pub is : items ≡ front ++ x ∷ back

module _ {X : Type 0} (same : X → X → Bool) (decides : (x y : X) → Decides (same x y) (x ≡ y)) where
  pub hit : X → X → ℕ
  hit x y = if same x y then 1 else 0

  pub hit_itself : (x : X) → hit x x ≡ 1
  unfolding hit
  hit_itself x = ap (λ b. if b then 1 else 0) ((decides x x).1 refl)

  hit_other : (x y : X) → same x y ≡ false → hit x y ≡ 0
  unfolding hit
  hit_other x y e = ap (λ b. if b then 1 else 0) e

  further : {x y : X} {ys : List X} → Split x ys → Split x (y ∷ ys)
  further {x} {y} s = record { front = y ∷ s.front; back = s.back; is = ap (λ zs. y ∷ zs) s.is }

  found_at : (x y : X) (ys : List X) (b : Bool) → same x y ≡ b → (0 < sum_by (hit x) ys → Split x ys) → 0 < sum_by (hit x) (y ∷ ys) → Split x (y ∷ ys)
  found_at x y ys true e rest h = record { front = []; back = ys; is = ap (λ z. z ∷ ys) (sym ((decides x y).0 e)) }
  found_at x y ys false e rest h = further (rest (omega (arith, hit_other x y e, sum_by-cons (hit x) y ys, h)))

  pub found : (x : X) (ys : List X) → 0 < sum_by (hit x) ys → Split x ys
  found x [] h = absurd (omega (arith, h))
  found x (y ∷ ys) h = found_at x y ys (same x y) refl (found x ys) h

  module _ {Y : Type 0} (f : List X → Y) (swaps : (x y : X) (zs : List X) → f (x ∷ y ∷ zs) ≡ f (y ∷ x ∷ zs)) (follows : (x : X) (xs ys : List X) → f xs ≡ f ys → f (x ∷ xs) ≡ f (x ∷ ys)) where
    moved : (x : X) (front back : List X) → f (front ++ x ∷ back) ≡ f (x ∷ (front ++ back))
    moved x [] back = refl
    moved x (y ∷ front) back = follows y (front ++ x ∷ back) (x ∷ (front ++ back)) (moved x front back) ∙ swaps y x (front ++ back)

    by_weights : (xs ys : List X) → ((h : X → ℕ) → sum_by h xs ≡ sum_by h ys) → f xs ≡ f ys
    by_weights [] [] e = refl
    by_weights [] (y ∷ ys) e = absurd (omega (arith, e (λ z. 1), sum_by-cons (λ z. 1) y ys))
    by_weights (x ∷ xs) ys e =
        let s : Split x ys = found x ys (omega (arith, e (hit x), hit_itself x, sum_by-cons (hit x) x xs)) in
        let rest : f xs ≡ f (s.front ++ s.back) = by_weights xs (s.front ++ s.back) (λ h.
        omega (arith, e h, ap (sum_by h) s.is, sum_by-cons h x xs, sum_by-append h s.front (x ∷ s.back), sum_by-cons h x s.back, sum_by-append h s.front s.back)) in
        follows x xs (s.front ++ s.back) rest ∙ sym (moved x s.front s.back) ∙ ap f (sym s.is)

    pub by_permutation : (xs ys : List X) → IsPermutation xs ys → f xs ≡ f ys
    by_permutation xs ys same_items = by_weights xs ys (λ h. sym (sum_by-IsPermutation h xs ys same_items))
