-- Arithmetic of two numbers of one kind. The types of the arguments come first.
use Rattle.std.specs.Prelude.{ℤ, Ok}
use Rattle.sql_values.specs.declared.types.SqlType.{SqlType}
use Rattle.sql_values.specs.declared.value.Value.{Value}
use Rattle.sql_values.specs.declared.value.Value.TheVariants.{Null, Bigint, Decimal}
use Rattle.sql_functions.specs.Outcomes.{Outcome}
use Rattle.sql_functions.specs.Bigints.{bigint_sum, bigint_difference, bigint_product, bigint_quotient, bigint_remainder, bigint_opposite}
use Rattle.sql_functions.specs.DecimalNumbers.{decimal_sum, decimal_difference, decimal_product, decimal_opposite}

-- NULL where the value is no bigint
abbrev pub with_bigint : (ℤ → Outcome) → Value → Outcome
with_bigint operation (Bigint n) = operation n
with_bigint operation v = Ok Null

abbrev pub with_decimal : (ℤ → Outcome) → Value → Outcome
with_decimal operation (Decimal unscaled) = operation unscaled
with_decimal operation v = Ok Null

-- an operation of two bigints
abbrev pub of_bigints : (ℤ → ℤ → Outcome) → Value → Value → Outcome
of_bigints operation v w = with_bigint (λ a. with_bigint (operation a) w) v

-- an operation of two bigints, and another of two decimals
abbrev pub of_numbers : (ℤ → ℤ → Outcome) → (ℤ → ℤ → Outcome) → Value → Value → Outcome
of_numbers bigints decimals (Bigint a) w = with_bigint (bigints a) w
of_numbers bigints decimals (Decimal a) w = with_decimal (decimals a) w
of_numbers bigints decimals v w = Ok Null

abbrev pub sum_of : SqlType → SqlType → Value → Value → Outcome
sum_of left right = of_numbers bigint_sum (decimal_sum left right)

abbrev pub difference_of : SqlType → SqlType → Value → Value → Outcome
difference_of left right = of_numbers bigint_difference (decimal_difference left right)

abbrev pub product_of : SqlType → SqlType → Value → Value → Outcome
product_of left right = of_numbers bigint_product (decimal_product left right)

abbrev pub quotient_of : Value → Value → Outcome
quotient_of = of_bigints bigint_quotient

abbrev pub remainder_of : Value → Value → Outcome
remainder_of = of_bigints bigint_remainder

abbrev pub opposite_of : SqlType → Value → Outcome
opposite_of kind (Bigint n) = bigint_opposite n
opposite_of kind (Decimal unscaled) = decimal_opposite kind unscaled
opposite_of kind v = Ok Null
