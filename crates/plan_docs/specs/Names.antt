-- What a name stands for: the place of the first table, or column, that has it.
use Rattle.std.specs.Prelude.{ℕ, ◌+◌, List, [], ◌∷◌, map, slice_get, Bool, if◌then◌else◌, Option, Some, None}
use Rattle.std.specs.List.{find}
use Rattle.serde_json.specs.Data.{Data}
use Rattle.sql_values.specs.declared.types.SqlType.{SqlType}
use Rattle.sql_values.specs.declared.types.SqlType.TheVariants as kind
use Rattle.json_paths.specs.declared.key.Key.TheVariants as key
use Rattle.plan_grammar.specs.Json.{entries_under, same_text, text_of, text_under}
use Rattle.plan_docs.specs.Words.{small, type_under}

abbrev pub has_name : List ℕ → Data → Bool
has_name name d = same_text (text_under key.Name d) name

-- past the last where none has the name
abbrev pub place_named : List ℕ → List Data → ℕ
place_named name [] = 0
place_named name (d ∷ ds) = if has_name name d then 0 else place_named name ds + 1

-- the columns of a table
abbrev pub columns_in : Option Data → List Data
columns_in None = []
columns_in (Some table) = entries_under key.Columns table

-- the table that a scan names
abbrev pub table_of : Data → Data → ℕ
table_of document scan = place_named (text_under key.Table scan) (entries_under key.Tables document)

abbrev pub scanned_columns : Data → Data → List Data
scanned_columns document scan = columns_in (slice_get (entries_under key.Tables document) (table_of document scan))

abbrev pub column_place : List Data → Data → ℕ
column_place columns d = small (place_named (text_of d) columns)

abbrev pub type_in : Option Data → SqlType
type_in None = kind.Boolean
type_in (Some column) = type_under key.Type column

abbrev pub column_type : List Data → Data → SqlType
column_type columns d = type_in (find (has_name (text_of d)) columns)

-- the places and the types of the columns that names name
abbrev pub places_of : List Data → List Data → List ℕ
places_of columns names = map (column_place columns) names

abbrev pub types_named : List Data → List Data → List SqlType
types_named columns names = map (column_type columns) names
