-- The text of a result: a header and one record a row.
use Rattle.std.specs.Prelude.{ℕ, ◌+◌, List, [], ◌∷◌, ◌++◌, flat_map, if◌then◌else◌}
use Rattle.csv.specs.Writing.{default_writer, row_body, row_text}
use Rattle.csv.specs.Writing.{field_text as csv_field}
use Rattle.sql_values.specs.Cells.{cell}
use Rattle.sql_values.specs.declared.types.SqlType.{SqlType}
use Rattle.sql_values.specs.declared.value.Value.{Value}
use Rattle.csv_tables.specs.Fields.{backslash, field_text, starts_with_backslash}

-- the fields of the cells of a row, one for each type, from a column on
abbrev pub fields_from : ℕ → List SqlType → List Value → List (List ℕ)
fields_from at [] row = []
fields_from at (kind ∷ kinds) row = field_text kind (cell row at) ∷ fields_from (at + 1) kinds row

-- a field as `csv` writes it with its default settings
abbrev pub written : List ℕ → List ℕ
written field = csv_field default_writer field

-- the first fields of a record, as `csv` writes them
abbrev pub body_text : List (List ℕ) → List ℕ
body_text fields = row_body default_writer fields

-- a record as `csv` writes it with its default settings
abbrev pub record_text : List (List ℕ) → List ℕ
record_text fields = row_text default_writer fields

-- a record of each row
abbrev pub rows_text : List SqlType → List (List Value) → List ℕ
rows_text kinds rows = flat_map (λ row. record_text (fields_from 0 kinds row)) rows

abbrev pub result_text : List (List ℕ) → List SqlType → List (List Value) → List ℕ
result_text names kinds rows = record_text names ++ rows_text kinds rows

-- what stands in a field before its text: a backslash more, if the text begins with one
abbrev pub lead : List ℕ → List ℕ
lead text = if starts_with_backslash text then backslash ∷ [] else []
