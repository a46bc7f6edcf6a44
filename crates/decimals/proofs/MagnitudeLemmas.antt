-- The magnitude of sums, products and opposites of signed numbers, and which of them fit 128 bits.
use Rattle.std.proofs.Common.{◌≡◌, ℕ, zero, suc, ◌+◌, ◌*◌, ◌^◌, ◌≤◌, ◌<◌, ℤ, pos, negsuc, ◌+ℤ◌, ◌-ℤ◌, ◌*ℤ◌, neg_ℤ, nat_abs, FitsSigned, arith, lit<, refl, pow-add}
use Rattle.std.proofs.Math.Nat.{pow-le-pow_right}
use Rattle.std.proofs.lemmas.Int.{ints}
use Rattle.std.specs.Int.{w128}
use Rattle.decimals.proofs.PowerLemmas.{power_fits}

pub nat_abs-neg_ℤ : (z : ℤ) → nat_abs (neg_ℤ z) ≡ nat_abs z
nat_abs-neg_ℤ (pos zero) = refl
nat_abs-neg_ℤ (pos (suc n)) = refl
nat_abs-neg_ℤ (negsuc n) = refl

-- scaling by a natural number scales the magnitude
pub nat_abs-times : (z : ℤ) (n : ℕ) → nat_abs (z *ℤ pos n) ≡ nat_abs z * n
nat_abs-times (pos m) n = refl
nat_abs-times (negsuc m) n = nat_abs-neg_ℤ (pos (suc m * n))

pub nat_abs-sum : (x y : ℤ) → nat_abs (x +ℤ y) ≤ nat_abs x + nat_abs y
nat_abs-sum x y = omega (arith, ints)

-- a number of at most 38 digits fits 128 bits, and so does its opposite
pub digits_fit : (z : ℤ) (p : ℕ) → p ≤ 38 → nat_abs z < 10 ^ p → FitsSigned w128 z
digits_fit z p h small = let bound = power_fits p h in omega (arith, ints)

pub power_positive : (k : ℕ) → 0 < 10 ^ k
power_positive k = let zero_le : 0 ≤ k = omega arith in let up : 10 ^ 0 ≤ 10 ^ k = pow-le-pow_right (lit< tt) zero_le in omega arith

-- k more digits after the point are k more digits
pub scaled_digits : (z : ℤ) (p k : ℕ) → nat_abs z < 10 ^ p → nat_abs (z *ℤ pos (10 ^ k)) < 10 ^ (p + k)
scaled_digits z p k small =
    let positive = power_positive k in
    rw (nat_abs-times z (10 ^ k), pow-add 10 p k) (grind arith)

-- a sum has at most one digit more
pub sum_digits : (x y : ℤ) (e : ℕ) → nat_abs x < 10 ^ e → nat_abs y < 10 ^ e → nat_abs (x +ℤ y) < 10 ^ (1 + e)
sum_digits x y e small_x small_y =
    let bound = nat_abs-sum x y in
    rw (pow-add 10 1 e) (omega arith)

pub digits_within : (n e f : ℕ) → n < 10 ^ e → e ≤ f → n < 10 ^ f
digits_within n e f small within =
    let up : 10 ^ e ≤ 10 ^ f = pow-le-pow_right (lit< tt) within in omega arith

pub nat_abs-product : (x y : ℤ) → nat_abs (x *ℤ y) ≡ nat_abs x * nat_abs y
nat_abs-product (pos m) (pos n) = refl
nat_abs-product (pos m) (negsuc n) = nat_abs-neg_ℤ (pos (m * suc n))
nat_abs-product (negsuc m) (pos n) = nat_abs-neg_ℤ (pos (suc m * n))
nat_abs-product (negsuc m) (negsuc n) = refl

below_product : (m n a b : ℕ) → m < a → n < b → m * n < a * b
below_product m n a b h k = grind arith

-- a product has the digits of both sides together
pub product_digits : (x y : ℤ) (p q : ℕ) → nat_abs x < 10 ^ p → nat_abs y < 10 ^ q → nat_abs (x *ℤ y) < 10 ^ (p + q)
product_digits x y p q small_x small_y =
    rw (nat_abs-product x y, pow-add 10 p q) (below_product (nat_abs x) (nat_abs y) (10 ^ p) (10 ^ q) small_x small_y)

-- a number of at most 38 digits is not the least of 128 bits
pub opposite_fits : (z : ℤ) → nat_abs z < 10 ^ 38 → FitsSigned w128 (pos 0 -ℤ z)
opposite_fits z small = let bound : 10 ^ 38 < 2 ^ 127 = lit< tt in omega (arith, ints)

pub opposite_is : (z : ℤ) → pos 0 -ℤ z ≡ neg_ℤ z
opposite_is (pos zero) = refl
opposite_is (pos (suc n)) = omega (arith, ints)
opposite_is (negsuc n) = omega (arith, ints)

pub ruleset signs = (opposite_fits, opposite_is, nat_abs-neg_ℤ, digits_fit)
