-- Casts of values of their types give values of the type of the cast.
use Rattle.std.proofs.Common.{◌≡◌, ℕ, ◌≤◌, List, Bool, true, false, if◌then◌else◌, Option, Some, None, ℤ, nat_abs, refl, arith}
use Rattle.std.specs.Prelude.{Ok, nat_le, length, is_some}
use Rattle.std.proofs.lemmas.Bool.Decides.{nat_tests}
use Rattle.decimals.specs.Arithmetic.{Parts, checked_parts, is_decimal_type, rescaled}
use Rattle.decimals.proofs.MagnitudeLemmas.{digits_within}
use Rattle.scalar_texts.specs.Numbers.{has_64_bits}
use Rattle.sql_values.specs.declared.types.SqlType.{SqlType}
use Rattle.sql_values.specs.declared.types.SqlType.TheVariants as type
use Rattle.sql_values.specs.declared.value.Value.{Value}
use Rattle.sql_values.specs.declared.value.Value.TheVariants.{Null, Boolean, Bigint, Decimal, Varchar, Date}
use Rattle.sql_values.specs.declared.fail.Fail.TheVariants.{OutOfRange}
use Rattle.sql_values.specs.Texts.{longest_text, text_of_value, value_of_text}
use Rattle.sql_values.specs.Types.{IsType, has_type}
use Rattle.sql_functions.specs.DecimalNumbers.{decimal_parts, from_units}
use Rattle.sql_functions.specs.Casts.{bigint_of_decimal, bigint_of_units, cast_of, decimal_of_decimal, from_text, to_decimal}
use Rattle.sql_functions.specs.CallTypes.{can_cast}
use Rattle.type_laws.specs.Keeps.{KeepsType}
use Rattle.type_laws.proofs.DigitLemmas.{bounds_of_type, digits_below, rescaled_is_number, tests_of}
use Rattle.text_type_laws.proofs.TextLemmas.{parsed_has_type}
use Rattle.type_laws.proofs.LengthLemmas.{bigint_within, boolean_within, date_within, decimal_within}
use Rattle.type_laws.proofs.CallLemmas.{bigint_by, bigint_has_64_bits, text_is_short, units_keep}

-- from varchar
read_by : (k : SqlType) (o : Option Value) → ((v : Value) → o ≡ Some v → has_type k v ≡ true) → KeepsType k (from_text o)
read_by k (Some v) typed = typed v refl
read_by k None typed = tt

read_keeps : (k : SqlType) (text : List ℕ) → IsType k → KeepsType k (from_text (value_of_text k text))
read_keeps k text is = read_by k (value_of_text k text) (λ v e. parsed_has_type k is text v e)

-- among the numbers
units_to_bigint : (units : Option ℤ) → KeepsType type.Bigint (bigint_of_units units)
units_to_bigint (Some z) = bigint_by (has_64_bits z) z OutOfRange refl
units_to_bigint None = tt

decimal_to_bigint : (parts : Option Parts) → KeepsType type.Bigint (bigint_of_decimal parts)
decimal_to_bigint (Some a) = units_to_bigint (rescaled a 38 0)
decimal_to_bigint None = refl

rescaled_keeps : (a : Parts) (p s : ℕ) → is_decimal_type p s ≡ true → KeepsType (type.Decimal p s) (from_units (rescaled a p s))
rescaled_keeps a p s kind = units_keep p s (rescaled a p s) (λ z e. rescaled_is_number a p s z kind e)

decimal_to_decimal : (parts : Option Parts) (p s : ℕ) → is_decimal_type p s ≡ true → KeepsType (type.Decimal p s) (decimal_of_decimal p s parts)
decimal_to_decimal (Some a) p s kind = rescaled_keeps a p s kind
decimal_to_decimal None p s kind = refl

to_decimal_keeps : (p s : ℕ) (k : SqlType) (v : Value) → is_decimal_type p s ≡ true → KeepsType (type.Decimal p s) (to_decimal p s k v)
to_decimal_keeps p s k (Bigint n) kind = rescaled_keeps (n, 19, 0) p s kind
to_decimal_keeps p s k (Decimal z) kind = decimal_to_decimal (decimal_parts k z) p s kind
to_decimal_keeps p s k v kind = refl

if_decimal_type : (b : Bool) (p s : ℕ) (k : SqlType) (v : Value) → is_decimal_type p s ≡ b → KeepsType (type.Decimal p s) (if b then to_decimal p s k v else Ok Null)
if_decimal_type true p s k v kind = to_decimal_keeps p s k v kind
if_decimal_type false p s k v kind = refl

-- to varchar
short_is_text : (text : List ℕ) (n : ℕ) → length text ≤ n → n ≤ 1_000_000 → nat_le (length text) longest_text ≡ true
short_is_text text n short most = grind (arith, nat_tests)

units_within : (z : ℤ) (p s : ℕ) → is_some (checked_parts z p s) ≡ true → length (text_of_value (type.Decimal p s) (Decimal z)) ≤ 200
units_within z p s h =
    let tests = tests_of z p s h in
    let bounds = bounds_of_type p s tests.0 in
    decimal_within s z (omega arith) (digits_within (nat_abs z) p 38 (digits_below p z tests.1) bounds.1)

print_keeps : (k : SqlType) (v : Value) → has_type k v ≡ true → has_type type.Varchar (Varchar (text_of_value k v)) ≡ true
print_keeps k Null h = refl
print_keeps k (Boolean b) h = short_is_text _ 200 (boolean_within b) (omega arith)
print_keeps k (Bigint n) h = short_is_text _ 200 (bigint_within n (bigint_has_64_bits k n h)) (omega arith)
print_keeps (type.Decimal p s) (Decimal z) h = short_is_text _ 200 (units_within z p s h) (omega arith)
print_keeps k (Decimal z) h = cc
print_keeps k (Varchar text) h = text_is_short k text h
print_keeps k (Date day) h = short_is_text _ 200 (date_within day) (omega arith)

-- to each type
boolean_cast : (k : SqlType) (v : Value) → can_cast k type.Boolean ≡ true → has_type k v ≡ true → KeepsType type.Boolean (cast_of k type.Boolean v)
boolean_cast k Null c h = refl
boolean_cast k (Boolean b) c h = refl
boolean_cast k (Varchar text) c h = read_keeps type.Boolean text tt
boolean_cast type.Boolean v c h = cc
boolean_cast k v c h = cc

date_cast : (k : SqlType) (v : Value) → can_cast k type.Date ≡ true → has_type k v ≡ true → KeepsType type.Date (cast_of k type.Date v)
date_cast k Null c h = refl
date_cast k (Varchar text) c h = read_keeps type.Date text tt
date_cast type.Date (Date day) c h = h
date_cast type.Date v c h = cc
date_cast k v c h = cc

varchar_cast : (k : SqlType) (v : Value) → has_type k v ≡ true → KeepsType type.Varchar (cast_of k type.Varchar v)
varchar_cast k Null h = refl
varchar_cast k v h = print_keeps k v h

bigint_cast : (k : SqlType) (v : Value) → has_type k v ≡ true → KeepsType type.Bigint (cast_of k type.Bigint v)
bigint_cast k (Varchar text) h = read_keeps type.Bigint text tt
bigint_cast k (Decimal z) h = decimal_to_bigint (decimal_parts k z)
bigint_cast k (Bigint n) h = bigint_has_64_bits k n h
bigint_cast k v h = refl

decimal_cast : (k : SqlType) (p s : ℕ) (v : Value) → IsType (type.Decimal p s) → KeepsType (type.Decimal p s) (cast_of k (type.Decimal p s) v)
decimal_cast k p s Null is = refl
decimal_cast k p s (Varchar text) is = read_keeps (type.Decimal p s) text is
decimal_cast k p s v is = if_decimal_type (is_decimal_type p s) p s k v refl

pub cast_keeps : (from to : SqlType) (v : Value) → IsType to → can_cast from to ≡ true → has_type from v ≡ true → KeepsType to (cast_of from to v)
cast_keeps from type.Boolean v is c h = boolean_cast from v c h
cast_keeps from type.Bigint v is c h = bigint_cast from v h
cast_keeps from (type.Decimal p s) v is c h = decimal_cast from p s v is
cast_keeps from type.Varchar v is c h = varchar_cast from v h
cast_keeps from type.Date v is c h = date_cast from v c h
