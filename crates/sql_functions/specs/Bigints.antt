-- Whole numbers of 64 bits.
use Rattle.std.specs.Prelude.{ℤ, pos, ◌+ℤ◌, ◌*ℤ◌, ◌-ℤ◌, neg_ℤ, int_div, int_rem, if◌then◌else◌, Ok, Err}
use Rattle.std.specs.Ordering.{int_eq}
use Rattle.scalar_texts.specs.Numbers.{has_64_bits}
use Rattle.sql_values.specs.declared.value.Value.TheVariants.{Bigint}
use Rattle.sql_values.specs.declared.fail.Fail.TheVariants.{OutOfRange, DivisionByZero}
use Rattle.sql_functions.specs.Outcomes.{Outcome}

-- the number, where it is within 64 bits
abbrev pub bigint : ℤ → Outcome
bigint z = if has_64_bits z then Ok (Bigint z) else Err OutOfRange

abbrev pub bigint_sum : ℤ → ℤ → Outcome
bigint_sum a b = bigint (a +ℤ b)

abbrev pub bigint_difference : ℤ → ℤ → Outcome
bigint_difference a b = bigint (a -ℤ b)

abbrev pub bigint_product : ℤ → ℤ → Outcome
bigint_product a b = bigint (a *ℤ b)

abbrev pub bigint_opposite : ℤ → Outcome
bigint_opposite a = bigint (neg_ℤ a)

-- toward zero
abbrev pub bigint_quotient : ℤ → ℤ → Outcome
bigint_quotient a b = if int_eq b (pos 0) then Err DivisionByZero else bigint (int_div a b)

-- with the sign of the dividend
abbrev pub bigint_remainder : ℤ → ℤ → Outcome
bigint_remainder a b = if int_eq b (pos 0) then Err DivisionByZero else bigint (int_rem a b)
