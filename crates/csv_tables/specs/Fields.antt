-- The field of a record that stands for a cell, and the cell that a field stands for.
use Rattle.std.specs.Prelude.{ℕ, Bool, true, false, not, ◌&&◌, ◌||◌, ◌==◌, nat_eq, if◌then◌else◌, List, [], ◌∷◌, length, Option, Some, None, Result, Ok, Err, codes}
use Rattle.std.specs.Cmp.Lexicographic.{pointwise}
use Rattle.std.specs.Str.{is_utf8}
use Rattle.sql_values.specs.Texts.{value_of_text, text_of_value}
use Rattle.sql_values.specs.declared.types.SqlType.{SqlType}
use Rattle.sql_values.specs.declared.types.SqlType.TheVariants.{Boolean, Varchar}
use Rattle.sql_values.specs.declared.value.Value.{Value}
use Rattle.sql_values.specs.declared.value.Value.TheVariants as value
use Rattle.csv_tables.specs.Places.{not_utf8, malformed}

abbrev pub is_varchar : SqlType → Bool
is_varchar Varchar = true
is_varchar _ = false

abbrev pub same_bytes : List ℕ → List ℕ → Bool
same_bytes = pointwise nat_eq

abbrev pub backslash : ℕ
backslash = 92

-- the field of a NULL of any type
abbrev pub null_field : List ℕ
null_field = codes "\\N"

abbrev pub starts_with_backslash : List ℕ → Bool
starts_with_backslash [] = false
starts_with_backslash (a ∷ rest) = a == backslash

-- a text as a field: one backslash more in front of a first one, so that no text is read as NULL
abbrev pub escaped : List ℕ → List ℕ
escaped text = if starts_with_backslash text then backslash ∷ text else text

-- the text of such a field
abbrev pub unescaped : List ℕ → List ℕ
unescaped [] = []
unescaped (a ∷ rest) = if (a == backslash) && starts_with_backslash rest then rest else a ∷ rest

-- the text of a field of the type
abbrev pub text_in : SqlType → List ℕ → List ℕ
text_in kind field = if is_varchar kind then unescaped field else field

-- an empty field is a text of varchar and NULL for any other type
abbrev pub is_null : SqlType → List ℕ → Bool
is_null kind field = same_bytes field null_field || (not (is_varchar kind) && (length field == 0))

abbrev pub value_or_malformed : Option Value → Result Value ℕ
value_or_malformed None = Err malformed
value_or_malformed (Some v) = Ok v

-- the cell that a field stands for, or why it stands for none
abbrev pub value_of_field : SqlType → List ℕ → Result Value ℕ
value_of_field kind field =
    if not (is_utf8 field) then Err not_utf8
    else if is_null kind field then Ok value.Null
    else value_or_malformed (value_of_text kind (text_in kind field))

-- the number or the day that a field writes
abbrev pub number_in : SqlType → List ℕ → Option Value
number_in Boolean field = None
number_in Varchar field = None
number_in kind field = value_of_text kind field

-- the field that stands for a cell
abbrev pub field_text : SqlType → Value → List ℕ
field_text kind value.Null = null_field
field_text kind (value.Varchar text) = escaped text
field_text kind v = text_of_value kind v
