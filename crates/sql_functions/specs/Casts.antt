-- Casts, each from a type to a type.
use Rattle.std.specs.Prelude.{ℕ, ℤ, if◌then◌else◌, Option, Some, None, Ok, Err}
use Rattle.decimals.specs.Arithmetic.{Parts, is_decimal_type, rescaled}
use Rattle.scalar_texts.specs.Numbers.{has_64_bits}
use Rattle.sql_values.specs.declared.types.SqlType.{SqlType}
use Rattle.sql_values.specs.declared.types.SqlType.TheVariants as type
use Rattle.sql_values.specs.declared.value.Value.{Value}
use Rattle.sql_values.specs.declared.value.Value.TheVariants.{Null, Bigint, Decimal, Varchar}
use Rattle.sql_values.specs.declared.fail.Fail.TheVariants.{OutOfRange, BadCast}
use Rattle.sql_values.specs.Texts.{text_of_value, value_of_text}
use Rattle.sql_functions.specs.Outcomes.{Outcome}
use Rattle.sql_functions.specs.DecimalNumbers.{decimal_parts, from_units}

-- the value that a text was read as
abbrev pub from_text : Option Value → Outcome
from_text (Some v) = Ok v
from_text None = Err BadCast

-- the whole number, where it is within 64 bits
abbrev pub bigint_of_units : Option ℤ → Outcome
bigint_of_units (Some z) = if has_64_bits z then Ok (Bigint z) else Err OutOfRange
bigint_of_units None = Err OutOfRange

abbrev pub bigint_of_decimal : Option Parts → Outcome
bigint_of_decimal (Some a) = bigint_of_units (rescaled a 38 0)
bigint_of_decimal None = Ok Null

abbrev pub to_bigint : SqlType → Value → Outcome
to_bigint from (Bigint n) = Ok (Bigint n)
to_bigint from (Decimal unscaled) = bigint_of_decimal (decimal_parts from unscaled)
to_bigint from v = Ok Null

abbrev pub decimal_of_decimal : ℕ → ℕ → Option Parts → Outcome
decimal_of_decimal p s (Some a) = from_units (rescaled a p s)
decimal_of_decimal p s None = Ok Null

-- a bigint is a number of 19 digits with none after the point
abbrev pub to_decimal : ℕ → ℕ → SqlType → Value → Outcome
to_decimal p s from (Bigint n) = from_units (rescaled (n, 19, 0) p s)
to_decimal p s from (Decimal unscaled) = decimal_of_decimal p s (decimal_parts from unscaled)
to_decimal p s from v = Ok Null

-- from the first type to the second
abbrev pub cast_of : SqlType → SqlType → Value → Outcome
cast_of from to Null = Ok Null
cast_of from type.Varchar v = Ok (Varchar (text_of_value from v))
cast_of from to (Varchar text) = from_text (value_of_text to text)
cast_of from type.Bigint v = to_bigint from v
cast_of from (type.Decimal p s) v = if is_decimal_type p s then to_decimal p s from v else Ok Null
cast_of from to v = Ok v
