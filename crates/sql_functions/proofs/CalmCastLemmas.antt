-- Casts that have a value of every value: to varchar, and of a type to itself.
use Rattle.std.proofs.Common.{◌≡◌, ℕ, ◌-◌, Bool, true, false, if◌then◌else◌, Some, None, ℤ, pos, refl, sym, arith}
use Rattle.std.specs.Prelude.{Ok, is_ok, nat_le, ◌&&◌, ◌*ℤ◌}
use Rattle.std.proofs.Math.IntN.{*ℤ-one}
use Rattle.std.proofs.lemmas.Bool.Decides.{nat_tests}
use Rattle.decimals.specs.Arithmetic.{has_digits, is_decimal_type, rescaled, scaled}
use Rattle.sql_values.specs.declared.types.SqlType.{SqlType}
use Rattle.sql_values.specs.declared.types.SqlType.TheVariants as type
use Rattle.sql_values.specs.declared.value.Value.{Value}
use Rattle.sql_values.specs.declared.value.Value.TheVariants.{Null, Boolean, Bigint, Decimal, Date}
use Rattle.sql_values.specs.Blocks.{fits}
use Rattle.sql_functions.specs.DecimalNumbers.{from_units}
use Rattle.sql_functions.specs.Casts.{cast_of, decimal_of_decimal, to_decimal}

pub cast_to_varchar : (k : SqlType) (v : Value) → is_ok (cast_of k type.Varchar v) ≡ true
cast_to_varchar k Null = refl
cast_to_varchar k v = refl

times_one : (z : ℤ) → z *ℤ pos 1 ≡ z
unfolding lib.IntN.one
times_one z = *ℤ-one z

same_scale : (s : ℕ) (z : ℤ) → scaled (s - s) z ≡ z
same_scale s z = let none : s - s ≡ 0 = omega arith in rw none (times_one z)

at_own_scale : (p s : ℕ) (z : ℤ) → has_digits p z ≡ true → is_ok (from_units (rescaled (z, p, s) p s)) ≡ true
at_own_scale p s z h =
    let own : nat_le s s ≡ true = grind (arith, nat_tests) in
    rw (own, same_scale s z, h) refl

own_number : (b c : Bool) (p s : ℕ) (z : ℤ) → c ≡ has_digits p z → is_ok (decimal_of_decimal p s (if b && c then Some (z, p, s) else None)) ≡ true
own_number true true p s z e = at_own_scale p s z (sym e)
own_number true false p s z e = refl
own_number false c p s z e = refl

own_decimal : (b : Bool) (p s : ℕ) (z : ℤ) → is_ok (if b then to_decimal p s (type.Decimal p s) (Decimal z) else Ok Null) ≡ true
own_decimal true p s z = own_number (is_decimal_type p s) (has_digits p z) p s z refl
own_decimal false p s z = refl

pub cast_to_own_type : (k : SqlType) (v : Value) → fits k v ≡ true → is_ok (cast_of k k v) ≡ true
cast_to_own_type type.Varchar v h = cast_to_varchar type.Varchar v
cast_to_own_type type.Boolean Null h = refl
cast_to_own_type type.Boolean (Boolean b) h = refl
cast_to_own_type type.Bigint Null h = refl
cast_to_own_type type.Bigint (Bigint n) h = refl
cast_to_own_type type.Date Null h = refl
cast_to_own_type type.Date (Date n) h = refl
cast_to_own_type (type.Decimal p s) Null h = refl
cast_to_own_type (type.Decimal p s) (Decimal z) h = own_decimal (is_decimal_type p s) p s z
cast_to_own_type k v h = cc
