-- Types, and the values that have them.
use Rattle.std.specs.Prelude.{◌≤◌, List, [], ◌∷◌, length, Bool, true, false, ◌&&◌, nat_le, is_some}
use Rattle.std.specs.List.{list_all}
use Rattle.decimals.specs.Arithmetic.{checked_parts}
use Rattle.scalar_texts.specs.Dates.{has_date}
use Rattle.scalar_texts.specs.Numbers.{has_64_bits}
use Rattle.sql_values.specs.declared.types.SqlType.{SqlType}
use Rattle.sql_values.specs.declared.types.SqlType.TheVariants.{Boolean, Bigint, Decimal, Varchar, Date}
use Rattle.sql_values.specs.declared.value.Value.{Value}
use Rattle.sql_values.specs.declared.value.Value.TheVariants as value
use Rattle.sql_values.specs.Texts.{longest_text}

-- the bounds of a decimal's digits
abbrev pub IsType : SqlType → Type 0
IsType (Decimal p s) = (1 ≤ p) × (p ≤ 38) × (s ≤ p)
IsType kind = Unit {0}

-- whether a value is one of the type: a number of 64 bits, a decimal of no more digits than the type
-- has, a text that is not too long, a day of the calendar. NULL is one of each type, and the only one
-- of decimals whose digits are out of bounds
abbrev pub has_type : SqlType → Value → Bool
has_type kind value.Null = true
has_type Boolean (value.Boolean truth) = true
has_type Bigint (value.Bigint n) = has_64_bits n
has_type (Decimal p s) (value.Decimal unscaled) = is_some (checked_parts unscaled p s)
has_type Varchar (value.Varchar text) = nat_le (length text) longest_text
has_type Date (value.Date day) = has_date day
has_type kind v = false

-- whether a row has a value for each type, and each is of its type
abbrev pub row_has_types : List SqlType → List Value → Bool
row_has_types [] [] = true
row_has_types (kind ∷ kinds) (v ∷ row) = has_type kind v && row_has_types kinds row
row_has_types kinds row = false

abbrev pub rows_have_types : List SqlType → List (List Value) → Bool
rows_have_types kinds rows = list_all (row_has_types kinds) rows
