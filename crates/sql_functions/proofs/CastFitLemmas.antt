-- Casts of values that fit their types: what they give fits the type of the cast, and a cast to
-- varchar or of a type to itself has a value.
use Rattle.std.proofs.Common.{◌≡◌, ℕ, List, Bool, true, false, if◌then◌else◌, Option, Some, None, ℤ, refl}
use Rattle.std.specs.Prelude.{Ok, nat_le, option_map, length}
use Rattle.decimals.specs.Arithmetic.{Parts, is_decimal_type, rescaled}
use Rattle.scalar_texts.specs.Booleans.{boolean_of}
use Rattle.scalar_texts.specs.Numbers.{bigint_of, has_64_bits}
use Rattle.scalar_texts.specs.Decimals.{decimal_of}
use Rattle.scalar_texts.specs.Dates.{date_of}
use Rattle.sql_values.specs.declared.types.SqlType.{SqlType}
use Rattle.sql_values.specs.declared.types.SqlType.TheVariants as type
use Rattle.sql_values.specs.declared.value.Value.{Value}
use Rattle.sql_values.specs.declared.value.Value.TheVariants.{Null, Boolean, Bigint, Decimal, Varchar, Date}
use Rattle.sql_values.specs.declared.fail.Fail.TheVariants.{OutOfRange}
use Rattle.sql_values.specs.Blocks.{fits}
use Rattle.sql_values.specs.Texts.{longest_text, value_of_text}
use Rattle.sql_functions.specs.Outcomes.{GivesType}
use Rattle.sql_functions.specs.DecimalNumbers.{decimal_parts, from_units}
use Rattle.sql_functions.specs.Casts.{bigint_of_decimal, bigint_of_units, cast_of, decimal_of_decimal, from_text, to_decimal}
use Rattle.sql_functions.specs.CallTypes.{can_cast}
use Rattle.sql_functions.proofs.FitLemmas.{bigint_only, bigint_or_failure, boolean_only, date_only, decimal_only}

read_cases : {A : Type 0} (k : SqlType) (make : A → Value) → ((x : A) → fits k (make x) ≡ true) → (o : Option A) → GivesType k (from_text (option_map make o))
read_cases k make each (Some x) = each x
read_cases k make each None = tt

text_cases : (b : Bool) (text : List ℕ) → GivesType type.Varchar (from_text (if b then Some (Varchar text) else None))
text_cases true text = refl
text_cases false text = tt

read_fits : (k : SqlType) (text : List ℕ) → GivesType k (from_text (value_of_text k text))
read_fits type.Boolean text = read_cases type.Boolean Boolean (λ x. refl) (boolean_of text)
read_fits type.Bigint text = read_cases type.Bigint Bigint (λ x. refl) (bigint_of text)
read_fits (type.Decimal p s) text = read_cases (type.Decimal p s) Decimal (λ x. refl) (decimal_of p s text)
read_fits type.Varchar text = text_cases (nat_le (length text) longest_text) text
read_fits type.Date text = read_cases type.Date Date (λ x. refl) (date_of text)

units_to_bigint : (units : Option ℤ) → GivesType type.Bigint (bigint_of_units units)
units_to_bigint (Some z) = bigint_or_failure (has_64_bits z) z OutOfRange
units_to_bigint None = tt

decimal_to_bigint : (parts : Option Parts) → GivesType type.Bigint (bigint_of_decimal parts)
decimal_to_bigint (Some a) = units_to_bigint (rescaled a 38 0)
decimal_to_bigint None = refl

units_to_decimal : (p s : ℕ) (units : Option ℤ) → GivesType (type.Decimal p s) (from_units units)
units_to_decimal p s (Some z) = refl
units_to_decimal p s None = tt

decimal_to_decimal : (p s : ℕ) (parts : Option Parts) → GivesType (type.Decimal p s) (decimal_of_decimal p s parts)
decimal_to_decimal p s (Some a) = units_to_decimal p s (rescaled a p s)
decimal_to_decimal p s None = refl

to_decimal_fits : (p s : ℕ) (k : SqlType) (v : Value) → GivesType (type.Decimal p s) (to_decimal p s k v)
to_decimal_fits p s k (Bigint n) = units_to_decimal p s (rescaled (n, 19, 0) p s)
to_decimal_fits p s k (Decimal z) = decimal_to_decimal p s (decimal_parts k z)
to_decimal_fits p s k v = refl

if_decimal_type : (b : Bool) (p s : ℕ) (k : SqlType) (v : Value) → GivesType (type.Decimal p s) (if b then to_decimal p s k v else Ok Null)
if_decimal_type true p s k v = to_decimal_fits p s k v
if_decimal_type false p s k v = refl

boolean_cast : (k : SqlType) (v : Value) → fits k v ≡ true → can_cast k type.Boolean ≡ true → GivesType type.Boolean (cast_of k type.Boolean v)
boolean_cast k Null h c = refl
boolean_cast k (Boolean b) h c = refl
boolean_cast k (Varchar t) h c = read_fits type.Boolean t
boolean_cast k (Bigint n) h c = let g : false ≡ true = rw (bigint_only k n h) at c in cc
boolean_cast k (Decimal n) h c = let d = decimal_only k n h in let g : false ≡ true = rw d.2 at c in cc
boolean_cast k (Date n) h c = let g : false ≡ true = rw (date_only k n h) at c in cc

date_cast : (k : SqlType) (v : Value) → fits k v ≡ true → can_cast k type.Date ≡ true → GivesType type.Date (cast_of k type.Date v)
date_cast k Null h c = refl
date_cast k (Date n) h c = refl
date_cast k (Varchar t) h c = read_fits type.Date t
date_cast k (Boolean b) h c = let g : false ≡ true = rw (boolean_only k b h) at c in cc
date_cast k (Bigint n) h c = let g : false ≡ true = rw (bigint_only k n h) at c in cc
date_cast k (Decimal n) h c = let d = decimal_only k n h in let g : false ≡ true = rw d.2 at c in cc

varchar_cast : (k : SqlType) (v : Value) → GivesType type.Varchar (cast_of k type.Varchar v)
varchar_cast k Null = refl
varchar_cast k v = refl

bigint_cast : (k : SqlType) (v : Value) → GivesType type.Bigint (cast_of k type.Bigint v)
bigint_cast k (Varchar t) = read_fits type.Bigint t
bigint_cast k (Decimal z) = decimal_to_bigint (decimal_parts k z)
bigint_cast k v = refl

decimal_cast : (k : SqlType) (p s : ℕ) (v : Value) → GivesType (type.Decimal p s) (cast_of k (type.Decimal p s) v)
decimal_cast k p s Null = refl
decimal_cast k p s (Varchar t) = read_fits (type.Decimal p s) t
decimal_cast k p s v = if_decimal_type (is_decimal_type p s) p s k v

pub cast_fits : (k l : SqlType) (v : Value) → fits k v ≡ true → can_cast k l ≡ true → GivesType l (cast_of k l v)
cast_fits k type.Boolean v h c = boolean_cast k v h c
cast_fits k type.Bigint v h c = bigint_cast k v
cast_fits k (type.Decimal p s) v h c = decimal_cast k p s v
cast_fits k type.Varchar v h c = varchar_cast k v
cast_fits k type.Date v h c = date_cast k v h c
