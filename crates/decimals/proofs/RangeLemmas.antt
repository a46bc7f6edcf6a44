-- What is in range: the results of the operations have the digits of their types.
use Rattle.std.proofs.Common.{◌≡◌, ℕ, ◌+◌, ◌-◌, ◌^◌, ◌≤◌, ◌<◌, max, min, Bool, true, false, Some, ℤ, ◌+ℤ◌, ◌*ℤ◌, neg_ℤ, nat_abs, arith, subst, nat_le, if◌then◌else◌}
use Rattle.std.proofs.lemmas.Option.{option_and_then_some}
use Rattle.std.proofs.lemmas.Bool.Decides.{nat_tests}
use Rattle.decimals.specs.declared.decimal.Decimal.{Decimal}
use Rattle.decimals.specs.Arithmetic.{of_digits, parts_of, scaled, sum_scale, sum_precision, operand, sum_of, difference_of, product_of, rescaled, rounded}
use Rattle.decimals.proofs.MagnitudeLemmas.{nat_abs-neg_ℤ, scaled_digits, sum_digits, product_digits, digits_within}

-- a number that was found to have at most p digits
pub of_digits_some : (p : ℕ) (z y : ℤ) → of_digits p z ≡ Some y → (z ≡ y) × (nat_abs y < 10 ^ p)
of_digits_some p z y e = grind (arith, nat_tests)

-- the digits of an operand at the scale of a sum, beside the sum's own
operand_digits : (d : Decimal) (s w : ℕ) (x : ℤ) → d.s ≤ s → d.p - d.s ≤ w → operand s (parts_of d) ≡ Some x → nat_abs x < 10 ^ (s + w)
operand_digits d s w x at_least within e =
    let found = of_digits_some 38 (scaled (s - d.s) d.unscaled) x e in
    let own : nat_abs (scaled (s - d.s) d.unscaled) < 10 ^ (d.p + (s - d.s)) = scaled_digits d.unscaled d.p (s - d.s) d.digits in
    let moved : nat_abs x < 10 ^ (d.p + (s - d.s)) = subst (λ (y : ℤ). nat_abs y < 10 ^ (d.p + (s - d.s))) found.0 own in
    digits_within (nat_abs x) (d.p + (s - d.s)) (s + w) moved (omega (arith, d.scale))

-- the lesser of two bounds on the digits is one
both_digits : (n e f : ℕ) → n < 10 ^ e → n < 10 ^ f → n < 10 ^ min e f
both_digits n e f a b = grind arith

pub sum_in_range : (a b : Decimal) (z : ℤ) → sum_of (parts_of a) (parts_of b) ≡ Some z → nat_abs z < 10 ^ sum_precision a.p a.s b.p b.s
sum_in_range a b z e =
    option_and_then_some _ _ z e (λ x e_x rest.
    option_and_then_some _ _ z rest (λ y e_y last.
    let found = of_digits_some 38 (x +ℤ y) z last in
    let w = max (a.p - a.s) (b.p - b.s) in
    let s = sum_scale a.s b.s in
    let small_x = operand_digits a s w x (omega arith) (omega arith) e_x in
    let small_y = operand_digits b s w y (omega arith) (omega arith) e_y in
    let small : nat_abs z < 10 ^ (1 + (s + w)) = subst (λ (v : ℤ). nat_abs v < 10 ^ (1 + (s + w))) found.0 (sum_digits x y (s + w) small_x small_y) in
    both_digits (nat_abs z) 38 (1 + s + w) found.1 (digits_within (nat_abs z) (1 + (s + w)) (1 + s + w) small (omega arith))))

pub difference_in_range : (a b : Decimal) (z : ℤ) → difference_of (parts_of a) (parts_of b) ≡ Some z → nat_abs z < 10 ^ sum_precision a.p a.s b.p b.s
difference_in_range a b z e =
    option_and_then_some _ _ z e (λ x e_x rest.
    option_and_then_some _ _ z rest (λ y e_y last.
    let found = of_digits_some 38 (x +ℤ neg_ℤ y) z last in
    let w = max (a.p - a.s) (b.p - b.s) in
    let s = sum_scale a.s b.s in
    let small_x = operand_digits a s w x (omega arith) (omega arith) e_x in
    let small_y = operand_digits b s w y (omega arith) (omega arith) e_y in
    let turned : nat_abs (neg_ℤ y) < 10 ^ (s + w) = rw (nat_abs-neg_ℤ y) small_y in
    let small : nat_abs z < 10 ^ (1 + (s + w)) = subst (λ (v : ℤ). nat_abs v < 10 ^ (1 + (s + w))) found.0 (sum_digits x (neg_ℤ y) (s + w) small_x turned) in
    both_digits (nat_abs z) 38 (1 + s + w) found.1 (digits_within (nat_abs z) (1 + (s + w)) (1 + s + w) small (omega arith))))

pub product_in_range : (a b : Decimal) (z : ℤ) → product_of (parts_of a) (parts_of b) ≡ Some z → nat_abs z < 10 ^ min 38 (a.p + b.p)
product_in_range a b z e =
    let found = of_digits_some 38 (a.unscaled *ℤ b.unscaled) z e in
    let small : nat_abs z < 10 ^ (a.p + b.p) = subst (λ (v : ℤ). nat_abs v < 10 ^ (a.p + b.p)) found.0 (product_digits a.unscaled b.unscaled a.p b.p a.digits b.digits) in
    both_digits (nat_abs z) 38 (a.p + b.p) found.1 small

-- of two numbers the one that is taken has the digits
either_in_range : (b : Bool) (p : ℕ) (x y z : ℤ) → (if b then of_digits p x else of_digits p y) ≡ Some z → nat_abs z < 10 ^ p
either_in_range true p x y z h = (of_digits_some p x z h).1
either_in_range false p x y z h = (of_digits_some p y z h).1

pub rescaled_in_range : (d : Decimal) (p s : ℕ) (z : ℤ) → rescaled (parts_of d) p s ≡ Some z → nat_abs z < 10 ^ p
rescaled_in_range d p s z e = either_in_range (nat_le d.s s) p (scaled (s - d.s) d.unscaled) (rounded (d.s - s) d.unscaled) z e

pub digits_at_most_38 : (d : Decimal) → nat_abs d.unscaled < 10 ^ 38
digits_at_most_38 d = digits_within (nat_abs d.unscaled) d.p 38 d.digits d.precision.1
