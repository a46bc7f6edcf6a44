-- Values of a type by their digits: decimals, and whole numbers of 64 bits.
use Rattle.std.proofs.Common.{◌≡◌, ℕ, ◌^◌, ◌<◌, ◌≤◌, Bool, true, false, ◌&&◌, Some, None, is_some, if◌then◌else◌, nat_le, nat_abs, ℤ, pos, negsuc, neg_ℤ, ◌≤ℤ◌, refl, ap, arith}
use Rattle.std.specs.Prelude.{IsTrue}
use Rattle.std.proofs.lemmas.Bool.{and_from, and_parts, le-leb, leb-true, lt-ltb, ltb-true}
use Rattle.std.proofs.lemmas.Int.{ints}
use Rattle.decimals.specs.Arithmetic.{Parts, has_digits, is_decimal_type}
use Rattle.scalar_texts.specs.Dates.{has_date}
use Rattle.scalar_texts.specs.Numbers.{has_64_bits}
use Rattle.sql_values.specs.declared.types.SqlType.TheVariants as type
use Rattle.sql_values.specs.declared.value.Value.TheVariants.{Decimal}
use Rattle.group_type_laws.proofs.TypeLemmas.{IsOf}

passed : {A : Type 0} (b : Bool) (x : A) → is_some (if b then Some x else None) ≡ true → b ≡ true
passed true x h = refl
passed false x h = h

pub decimal_parts : (p s : ℕ) (n : ℤ) → IsOf (type.Decimal p s) (Decimal n) → IsTrue (is_decimal_type p s) × (nat_abs n < 10 ^ p)
decimal_parts p s n h =
    let parts = and_parts (is_decimal_type p s) (has_digits p n) (passed {A = Parts} (is_decimal_type p s && has_digits p n) (n, p, s) h) in
    (parts.0, ltb-true (nat_abs n) (10 ^ p) parts.1)

pub decimal-is_of : (p s : ℕ) (n : ℤ) → IsTrue (is_decimal_type p s) → nat_abs n < 10 ^ p → IsOf (type.Decimal p s) (Decimal n)
decimal-is_of p s n h small =
    ap (λ b. is_some {T = Parts} (if b then Some (n, p, s) else None))
    (and_from (is_decimal_type p s) (has_digits p n) h (lt-ltb (nat_abs n) (10 ^ p) small))

pub scale_within : (p s : ℕ) → IsTrue (is_decimal_type p s) → s ≤ 38
scale_within p s h =
    let outer = and_parts (nat_le 1 p && nat_le p 38) (nat_le s p) h in
    let inner = and_parts (nat_le 1 p) (nat_le p 38) outer.0 in
    omega (arith, leb-true p 38 inner.1, leb-true s p outer.1)

pub full_digits : (s : ℕ) → s ≤ 38 → IsTrue (is_decimal_type 38 s)
full_digits s h = le-leb s 38 h

-- magnitudes
pub bits_within : (n : ℤ) → IsTrue (has_64_bits n) → nat_abs n ≤ 2 ^ 63
bits_within (pos n) h = omega (arith, ltb-true n (2 ^ 63) h)
bits_within (negsuc n) h = omega (arith, ltb-true n (2 ^ 63) h)

days_between : (z : ℤ) → has_date z ≡ true → (neg_ℤ (pos 719_162) ≤ℤ z) × (z ≤ℤ pos 2_932_896)
days_between z h = grind (arith, ints)

pub date_within : (z : ℤ) → IsTrue (has_date z) → nat_abs z ≤ 2 ^ 63
date_within z h = let range = days_between z h in omega (arith, ints, range.0, range.1)
