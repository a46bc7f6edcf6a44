-- The rows of a values node.
use Rattle.std.specs.Prelude.{ℕ, ◌+◌, pos, List, [], ◌∷◌, map, false, Option, Some, None, unwrap_or}
use Rattle.serde_json.specs.Data.{Data}
use Rattle.serde_json.specs.Find.{as_str}
use Rattle.sql_values.specs.declared.types.SqlType.{SqlType}
use Rattle.sql_values.specs.declared.types.SqlType.TheVariants as kind
use Rattle.sql_values.specs.declared.value.Value.{Value}
use Rattle.sql_values.specs.declared.value.Value.TheVariants as value
use Rattle.sql_values.specs.Texts.{value_of_text}
use Rattle.sql_functions.specs.CallTypes.{type_at}
use Rattle.plan_grammar.specs.Json.{entries_in}

-- a value that the type does not have
abbrev pub misfit : SqlType → Value
misfit kind.Boolean = value.Bigint (pos 0)
misfit k = value.Boolean false

-- a text that writes no value of the type is such a value
abbrev pub cell_by : SqlType → Option (List ℕ) → Value
cell_by kind None = value.Null
cell_by kind (Some text) = unwrap_or (value_of_text kind text) (misfit kind)

abbrev pub cell_of : SqlType → Data → Value
cell_of kind d = cell_by kind (as_str d)

-- the cells of a row from column i on
abbrev pub cells_from : List SqlType → ℕ → List Data → List Value
cells_from types i [] = []
cells_from types i (d ∷ ds) = cell_of (type_at types i) d ∷ cells_from types (i + 1) ds

abbrev pub row_of_entries : List SqlType → Data → List Value
row_of_entries types d = cells_from types 0 (entries_in d)

abbrev pub rows_of_node : List SqlType → List Data → List (List Value)
rows_of_node types ds = map (row_of_entries types) ds
