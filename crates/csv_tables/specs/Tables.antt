-- The table that a text in CSV stands for.
use Rattle.std.specs.Prelude.{ℕ, ◌+◌, ◌-◌, ◌^◌, ◌==◌, min, if◌then◌else◌, List, [], ◌∷◌, ◌++◌, length, Option, Some, None, Result, Ok, Err, ◌≡◌}
use Rattle.csv.specs.Reading.{default_config, records, strip_bom}
use Rattle.sql_values.specs.ColumnRows.{TypedRows}
use Rattle.sql_values.specs.declared.types.Column.{Column}
use Rattle.sql_values.specs.declared.types.SqlType.{SqlType}
use Rattle.sql_values.specs.declared.value.Value.{Value}
use Rattle.csv_tables.specs.declared.fault.TableFault.{TableFault}
use Rattle.csv_tables.specs.Fields.{same_bytes, value_of_field}
use Rattle.csv_tables.specs.Places.{Place, place, wrong_header, wrong_width, too_many_rows, first_and_rest, in_place, IsFaultOf}

-- the records of a text as `csv` reads it with its default settings, the header being the first
abbrev pub records_of : List ℕ → List (List (List ℕ))
records_of bytes = records default_config (strip_bom bytes)

-- the first place, counted from `at`, in which the fields are not the names of the columns
abbrev pub differs_at : ℕ → List (List ℕ) → List Column → Option ℕ
differs_at at [] [] = None
differs_at at [] (column ∷ columns) = Some at
differs_at at (field ∷ fields) [] = Some at
differs_at at (field ∷ fields) (column ∷ columns) =
    if same_bytes field column.name then differs_at (at + 1) fields columns else Some at

-- the cells of the fields of a row from a column on
abbrev pub cells_from : ℕ → ℕ → List Column → List (List ℕ) → Result (List Value) Place
cells_from row at (column ∷ columns) (field ∷ fields) =
    first_and_rest (in_place row at (value_of_field column.kind field)) (cells_from row (at + 1) columns fields)
cells_from row at [] fields = Ok []
cells_from row at (column ∷ columns) [] = Ok []

-- a number of fields as a column
abbrev pub held : ℕ → ℕ
held n = min n (2 ^ 32 - 1)

-- the cells of a record
abbrev pub row_of_record : List Column → ℕ → ℕ → List (List ℕ) → Result (List Value) Place
row_of_record columns limit row fields =
    if row == limit + 1 then Err (place row 0 too_many_rows)
    else if length fields == length columns then cells_from row 0 columns fields
    else Err (place row (held (length fields)) wrong_width)

-- a row that was read is behind those before it
abbrev pub Adds : Result (List Value) Place → TypedRows → TypedRows → Type 0
Adds (Ok row) before after = after ≡ record before { rows = before.rows ++ row ∷ [] }
Adds (Err e) before after = ⊥

-- the rows of records, the first of which is this row
abbrev pub rows_from : List Column → ℕ → ℕ → List (List (List ℕ)) → Result (List (List Value)) Place
rows_from columns limit row [] = Ok []
rows_from columns limit row (fields ∷ more) =
    first_and_rest (row_of_record columns limit row fields) (rows_from columns limit (row + 1) more)

-- rows that were read, in columns of these types
pub record IsReadInto (read : Result (List (List Value)) Place) (types : List SqlType) (found : TypedRows) : Type 0 where
  pub rows : read ≡ Ok found.rows
  pub typed : found.types ≡ types
  pub whole : found.begun ≡ []

-- the rows under a header that differs from the columns in this place, if in any
abbrev pub rows_under : Option ℕ → List Column → ℕ → List (List (List ℕ)) → Result (List (List Value)) Place
rows_under (Some column) columns limit more = Err (place 0 column wrong_header)
rows_under None columns limit more = rows_from columns limit 1 more

-- the rows of the records of a text, or the first place in which it is no table of these columns and at most so many rows
abbrev pub table_of : List Column → ℕ → List (List (List ℕ)) → Result (List (List Value)) Place
table_of columns limit [] = Err (place 0 0 wrong_header)
table_of columns limit (header ∷ more) = rows_under (differs_at 0 header columns) columns limit more

-- the text is a table of these rows
pub record IsTable (columns : List Column) (limit : ℕ) (bytes : List ℕ) (rows : List (List Value)) : Type 0 where
  pub reads : table_of columns limit (records_of bytes) ≡ Ok rows

-- the text is no table, and the fault names the first place, if it is not memory that was wanting
pub record TableRefusedFor (columns : List Column) (limit : ℕ) (bytes : List ℕ) (fault : TableFault) : Type 0 where
  pub is : IsFaultOf (table_of columns limit (records_of bytes)) fault
