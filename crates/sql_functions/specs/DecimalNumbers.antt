-- Decimals by their types. Units that are no number of their type make a result NULL.
use Rattle.std.specs.Prelude.{◌+◌, nat_le, if◌then◌else◌, ℤ, neg_ℤ, Option, Some, None, Result, Ok, Err}
use Rattle.decimals.specs.Arithmetic.{Parts, checked_parts, difference_of, product_of, sum_of}
use Rattle.decimals.specs.declared.decimal.Decimal.{Decimal as Number}
use Rattle.decimals.specs.declared.decimal.OutOfRange.{OutOfRange as NoNumber}
use Rattle.sql_values.specs.declared.types.SqlType.{SqlType}
use Rattle.sql_values.specs.declared.types.SqlType.TheVariants as type
use Rattle.sql_values.specs.declared.value.Value.TheVariants.{Null, Decimal}
use Rattle.sql_values.specs.declared.fail.Fail.TheVariants.{OutOfRange}
use Rattle.sql_functions.specs.Outcomes.{Outcome}

-- the parts of a number of the type
abbrev pub decimal_parts : SqlType → ℤ → Option Parts
decimal_parts (type.Decimal p s) z = checked_parts z p s
decimal_parts kind z = None

-- the number of these units
abbrev pub from_units : Option ℤ → Outcome
from_units (Some z) = Ok (Decimal z)
from_units None = Err OutOfRange

-- the units of a result
abbrev pub units_of : Result Number NoNumber → Option ℤ
units_of (Ok d) = Some d.unscaled
units_of (Err e) = None

-- an operation of two numbers
abbrev pub of_two : (Parts → Parts → Outcome) → Option Parts → Option Parts → Outcome
of_two operation (Some a) (Some b) = operation a b
of_two operation a b = Ok Null

abbrev pub decimal_sum : SqlType → SqlType → ℤ → ℤ → Outcome
decimal_sum left right a b = of_two (λ x y. from_units (sum_of x y)) (decimal_parts left a) (decimal_parts right b)

abbrev pub decimal_difference : SqlType → SqlType → ℤ → ℤ → Outcome
decimal_difference left right a b = of_two (λ x y. from_units (difference_of x y)) (decimal_parts left a) (decimal_parts right b)

-- the product, of a scale that a type can have
abbrev pub parts_product : Parts → Parts → Outcome
parts_product a b = if nat_le (a.2 + b.2) 38 then from_units (product_of a b) else Ok Null

abbrev pub decimal_product : SqlType → SqlType → ℤ → ℤ → Outcome
decimal_product left right a b = of_two parts_product (decimal_parts left a) (decimal_parts right b)

-- the number of the other sign
abbrev pub opposite_of : Option Parts → Outcome
opposite_of (Some a) = Ok (Decimal (neg_ℤ a.0))
opposite_of None = Ok Null

abbrev pub decimal_opposite : SqlType → ℤ → Outcome
decimal_opposite kind a = opposite_of (decimal_parts kind a)
