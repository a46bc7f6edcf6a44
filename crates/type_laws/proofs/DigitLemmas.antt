-- The digits of results: of numbers that their types have, decimal arithmetic gives numbers that the type of the
-- result has.
use Rattle.std.proofs.Common.{◌≡◌, ℕ, ◌+◌, ◌-◌, ◌^◌, ◌≤◌, ◌<◌, Bool, true, false, Some, None, ℤ, neg_ℤ, nat_abs, refl, arith, if◌then◌else◌}
use Rattle.std.specs.Prelude.{◌&&◌, is_some, nat_le}
use Rattle.std.proofs.lemmas.Bool.Decides.{nat_tests}
use Rattle.decimals.specs.declared.decimal.Decimal.{Decimal}
use Rattle.decimals.specs.Arithmetic.{Parts, checked_parts, difference_of, has_digits, is_decimal_type, of_digits, product_of, product_precision, rescaled, rounded, scaled, sum_of, sum_precision, sum_scale}
use Rattle.decimals.proofs.MagnitudeLemmas.{nat_abs-neg_ℤ}
use Rattle.decimals.proofs.RangeLemmas.{difference_in_range, of_digits_some, product_in_range, sum_in_range}

both_tests : {A : Type 0} (b c : Bool) (x : A) → is_some (if b && c then Some x else None) ≡ true → (b ≡ true) × (c ≡ true)
both_tests true true x h = (refl, refl)
both_tests true false x h = cc
both_tests false c x h = cc

-- what is known of a number that its type has
pub tests_of : (z : ℤ) (p s : ℕ) → is_some (checked_parts z p s) ≡ true → (is_decimal_type p s ≡ true) × (has_digits p z ≡ true)
tests_of z p s h = both_tests (is_decimal_type p s) (has_digits p z) (z, p, s) h

pub parts_are : (z : ℤ) (p s : ℕ) → is_some (checked_parts z p s) ≡ true → checked_parts z p s ≡ Some (z, p, s)
parts_are z p s h = let tests = tests_of z p s h in rw (tests.0, tests.1) refl

pub bounds_of_type : (p s : ℕ) → is_decimal_type p s ≡ true → (1 ≤ p) × (p ≤ 38) × (s ≤ p)
bounds_of_type p s h = grind (arith, nat_tests)

pub type_of_bounds : (p s : ℕ) → 1 ≤ p → p ≤ 38 → s ≤ p → is_decimal_type p s ≡ true
type_of_bounds p s some most scale = grind (arith, nat_tests)

pub digits_below : (p : ℕ) (z : ℤ) → has_digits p z ≡ true → nat_abs z < 10 ^ p
digits_below p z h = grind (arith, nat_tests)

below_digits : (p : ℕ) (z : ℤ) → nat_abs z < 10 ^ p → has_digits p z ≡ true
below_digits p z h = grind (arith, nat_tests)

pub of_type : (z : ℤ) (p s : ℕ) → is_decimal_type p s ≡ true → nat_abs z < 10 ^ p → is_some (checked_parts z p s) ≡ true
of_type z p s kind small = rw (kind, below_digits p z small) refl

-- the number with its type
abbrev number : (z : ℤ) (p s : ℕ) → is_some (checked_parts z p s) ≡ true → Decimal
number z p s h =
    let tests = tests_of z p s h in
    let bounds = bounds_of_type p s tests.0 in
    record { unscaled = z; p = p; s = s; precision = (bounds.0, bounds.1); scale = bounds.2; digits = digits_below p z tests.1 }

pub sum_type_is : (p s q r : ℕ) → is_decimal_type p s ≡ true → is_decimal_type q r ≡ true → is_decimal_type (sum_precision p s q r) (sum_scale s r) ≡ true
sum_type_is p s q r h j =
    let left = bounds_of_type p s h in
    let right = bounds_of_type q r j in
    type_of_bounds (sum_precision p s q r) (sum_scale s r) (omega arith) (omega arith) (omega arith)

pub product_type_is : (p s q r : ℕ) → is_decimal_type p s ≡ true → is_decimal_type q r ≡ true → nat_le (s + r) 38 ≡ true → is_decimal_type (product_precision p q) (s + r) ≡ true
product_type_is p s q r h j within =
    let left = bounds_of_type p s h in
    let right = bounds_of_type q r j in
    let most : s + r ≤ 38 = grind (arith, nat_tests) in
    type_of_bounds (product_precision p q) (s + r) (omega arith) (omega arith) (omega arith)

pub sum_is_number : (a b z : ℤ) (p s q r : ℕ) → is_some (checked_parts a p s) ≡ true → is_some (checked_parts b q r) ≡ true
    → sum_of (a, p, s) (b, q, r) ≡ Some z → is_some (checked_parts z (sum_precision p s q r) (sum_scale s r)) ≡ true
sum_is_number a b z p s q r h j e =
    of_type z (sum_precision p s q r) (sum_scale s r) (sum_type_is p s q r (tests_of a p s h).0 (tests_of b q r j).0)
    (sum_in_range (number a p s h) (number b q r j) z e)

pub difference_is_number : (a b z : ℤ) (p s q r : ℕ) → is_some (checked_parts a p s) ≡ true → is_some (checked_parts b q r) ≡ true
    → difference_of (a, p, s) (b, q, r) ≡ Some z → is_some (checked_parts z (sum_precision p s q r) (sum_scale s r)) ≡ true
difference_is_number a b z p s q r h j e =
    of_type z (sum_precision p s q r) (sum_scale s r) (sum_type_is p s q r (tests_of a p s h).0 (tests_of b q r j).0)
    (difference_in_range (number a p s h) (number b q r j) z e)

pub product_is_number : (a b z : ℤ) (p s q r : ℕ) → is_some (checked_parts a p s) ≡ true → is_some (checked_parts b q r) ≡ true → nat_le (s + r) 38 ≡ true
    → product_of (a, p, s) (b, q, r) ≡ Some z → is_some (checked_parts z (product_precision p q) (s + r)) ≡ true
product_is_number a b z p s q r h j within e =
    of_type z (product_precision p q) (s + r) (product_type_is p s q r (tests_of a p s h).0 (tests_of b q r j).0 within)
    (product_in_range (number a p s h) (number b q r j) z e)

pub opposite_is_number : (z : ℤ) (p s : ℕ) → is_some (checked_parts z p s) ≡ true → is_some (checked_parts (neg_ℤ z) p s) ≡ true
opposite_is_number z p s h =
    let tests = tests_of z p s h in
    of_type (neg_ℤ z) p s tests.0 (rw (nat_abs-neg_ℤ z) (digits_below p z tests.1))

-- of two numbers the one that is taken has the digits
either_has : (b : Bool) (p : ℕ) (x y z : ℤ) → (if b then of_digits p x else of_digits p y) ≡ Some z → nat_abs z < 10 ^ p
either_has true p x y z e = (of_digits_some p x z e).1
either_has false p x y z e = (of_digits_some p y z e).1

pub rescaled_is_number : (a : Parts) (p s : ℕ) (z : ℤ) → is_decimal_type p s ≡ true → rescaled a p s ≡ Some z → is_some (checked_parts z p s) ≡ true
rescaled_is_number a p s z kind e =
    of_type z p s kind (either_has (nat_le a.2 s) p (scaled (s - a.2) a.0) (rounded (a.2 - s) a.0) z e)
