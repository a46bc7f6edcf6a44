-- The texts of values: what each type accepts, and what it prints.
use Rattle.std.specs.Prelude.{◌≡◌, ℕ, List, [], length, Option, Some, None, option_map, nat_le, if◌then◌else◌}
use Rattle.std.specs.Fmt.{signed_decimal}
use Rattle.scalar_texts.specs.Booleans.{boolean_of, boolean_text}
use Rattle.scalar_texts.specs.Numbers.{bigint_of}
use Rattle.scalar_texts.specs.Decimals.{decimal_of, decimal_text}
use Rattle.scalar_texts.specs.Dates.{date_of, date_text}
use Rattle.sql_values.specs.declared.types.SqlType.{SqlType}
use Rattle.sql_values.specs.declared.types.SqlType.TheVariants.{Boolean, Bigint, Decimal, Varchar, Date}
use Rattle.sql_values.specs.declared.value.Value.{Value}
use Rattle.sql_values.specs.declared.value.Value.TheVariants as value
use Rattle.sql_values.specs.declared.value_texts.ParseFault.{ParseFault}
use Rattle.sql_values.specs.declared.value_texts.ParseFault.TheVariants as fault

-- the longest text, in bytes
abbrev pub longest_text : ℕ
longest_text = 1000000

-- the value that a text writes; a varchar is any text that is not too long
abbrev pub value_of_text : SqlType → List ℕ → Option Value
value_of_text Boolean text = option_map value.Boolean (boolean_of text)
value_of_text Bigint text = option_map value.Bigint (bigint_of text)
value_of_text (Decimal p s) text = option_map value.Decimal (decimal_of p s text)
value_of_text Varchar text =
    if nat_le (length text) longest_text then Some (value.Varchar text) else None
value_of_text Date text = option_map value.Date (date_of text)

-- how many digits of a decimal stand after the point
abbrev pub scale_of : SqlType → ℕ
scale_of (Decimal p s) = s
scale_of kind = 0

-- the text of a value that has the type and is not NULL
abbrev pub text_of_value : SqlType → Value → List ℕ
text_of_value kind value.Null = []
text_of_value kind (value.Boolean truth) = boolean_text truth
text_of_value kind (value.Bigint n) = signed_decimal n
text_of_value kind (value.Decimal unscaled) = decimal_text (scale_of kind) unscaled
text_of_value kind (value.Varchar text) = text
text_of_value kind (value.Date day) = date_text day

-- why a text was not read: it writes no value of the type, or memory was wanting
abbrev pub FailsToParse : Option Value → ParseFault → Type 0
FailsToParse value fault.Malformed = value ≡ None
FailsToParse value fault.Memory = Unit {0}
