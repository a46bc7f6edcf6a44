-- Of a total order: what stands before what.
use Rattle.std.proofs.Common.{◌≡◌, Bool, true, false, refl, ap, sym, ◌∙◌}
use Rattle.std.specs.Prelude.{if◌then◌else◌}
use Rattle.std.specs.declared.cmp.Ordering.{Ordering}
use Rattle.std.specs.declared.cmp.Ordering.TheVariants.{Less, Equal, Greater}
use Rattle.std.specs.Ordering.{is_gt, is_le, ordering_reverse}
use Rattle.std.specs.Cmp.{IsTotalOrder}
use Rattle.std.proofs.lemmas.Bool.{true≢false}

pub not_both : {K : Type 0} {R : K → K → Ordering} → IsTotalOrder R → (x y : K) → R x y ≡ Less → ¬ (R y x ≡ Less)
not_both order x y e f = absurd (true≢false (sym (ap is_gt (order.antisymm x y ∙ ap ordering_reverse f)) ∙ ap is_gt e))

from_between : {K : Type 0} {R : K → K → Ordering} → IsTotalOrder R → (x y z : K) → R x z ≡ Less → (o : Ordering) → R x y ≡ o → ¬ (R x y ≡ Less) → R y z ≡ Less
from_between order x y z e Less f h = absurd (h f)
from_between order x y z e Equal f h = sym (order.congr x y z f) ∙ e
from_between order x y z e Greater f h = order.trans y x z (order.antisymm y x ∙ ap ordering_reverse f) e

-- what is not before one that is not before z is not before z
pub not_before : {K : Type 0} {R : K → K → Ordering} → IsTotalOrder R → (x y z : K) → ¬ (R x y ≡ Less) → ¬ (R y z ≡ Less) → ¬ (R x z ≡ Less)
not_before {R = R} order x y z h g e = g (from_between order x y z e (R x y) refl h)

-- the first of two; the left one where neither stands before the other
unfoldable pub first_of : {K : Type 0} → (K → K → Ordering) → K → K → K
first_of R x y = if is_le (R x y) then x else y

greater_unless : (o : Ordering) → is_le o ≡ false → o ≡ Greater
greater_unless Less e = absurd (true≢false e)
greater_unless Equal e = absurd (true≢false e)
greater_unless Greater e = refl

within_unless : (o : Ordering) → ¬ (ordering_reverse o ≡ Less) → is_le o ≡ true
within_unless Less h = refl
within_unless Equal h = refl
within_unless Greater h = absurd (h refl)

module _ {K : Type 0} {R : K → K → Ordering} (order : IsTotalOrder R) where
  after_it : (x y : K) → is_le (R x y) ≡ false → R y x ≡ Less
  after_it x y e = order.antisymm y x ∙ ap ordering_reverse (greater_unless (R x y) e)

  not_after : (x y : K) → is_le (R x y) ≡ true → ¬ (R y x ≡ Less)
  not_after x y e lt = true≢false (sym e ∙ ap is_le (order.antisymm x y ∙ ap ordering_reverse lt))

  le_from : (x y : K) → ¬ (R y x ≡ Less) → is_le (R x y) ≡ true
  le_from x y h = within_unless (R x y) (λ e. h (order.antisymm y x ∙ e))

  not_le_from : (x y : K) → R y x ≡ Less → is_le (R x y) ≡ false
  not_le_from x y lt = ap is_le (order.antisymm x y ∙ ap ordering_reverse lt)

  is_left : (x y : K) → is_le (R x y) ≡ true → first_of R x y ≡ x
  unfolding first_of
  is_left x y e = ap (λ b. if b then x else y) e

  is_right : (x y : K) → is_le (R x y) ≡ false → first_of R x y ≡ y
  unfolding first_of
  is_right x y e = ap (λ b. if b then x else y) e

  assoc_at : (x y z : K) (a b : Bool) → is_le (R x y) ≡ a → is_le (R y z) ≡ b → first_of R (first_of R x y) z ≡ first_of R x (first_of R y z)
  assoc_at x y z true true e f =
      ap (λ u. first_of R u z) (is_left x y e)
      ∙ is_left x z (le_from x z (not_before order z y x (not_after y z f) (not_after x y e)))
      ∙ sym (ap (first_of R x) (is_left y z f) ∙ is_left x y e)
  assoc_at x y z true false e f = ap (λ u. first_of R u z) (is_left x y e) ∙ sym (ap (first_of R x) (is_right y z f))
  assoc_at x y z false true e f =
      ap (λ u. first_of R u z) (is_right x y e) ∙ is_left y z f ∙ sym (ap (first_of R x) (is_left y z f) ∙ is_right x y e)
  assoc_at x y z false false e f =
      ap (λ u. first_of R u z) (is_right x y e) ∙ is_right y z f
      ∙ sym (ap (first_of R x) (is_right y z f) ∙ is_right x z (not_le_from x z (order.trans z y x (after_it y z f) (after_it x y e))))

  pub first_of_assoc : (x y z : K) → first_of R (first_of R x y) z ≡ first_of R x (first_of R y z)
  first_of_assoc x y z = assoc_at x y z (is_le (R x y)) (is_le (R y z)) refl refl
