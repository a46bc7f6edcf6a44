-- Trees whose expressions have types and whose aggregate calls can be made, over tables and constants
-- that fit the trees' types.
use Rattle.std.specs.Prelude.{◌≡◌, ℕ, ◌+◌, ◌<◌, List, ◌∷◌, All, IsTrue, length, slice_get, Option, Some, None}
use Rattle.sql_values.specs.Columns.{kinds}
use Rattle.sql_values.specs.declared.types.SqlType.{SqlType}
use Rattle.sql_values.specs.declared.table.Table.{Table}
use Rattle.sql_values.specs.declared.value.Value.{Value}
use Rattle.accumulators.specs.Limits.{are_allowed}
use Rattle.col_pages.specs.Fits.{AllFit}
use Rattle.page_processor.specs.Typed.{AllTyped, IsTyped}
use Rattle.plan_trees.specs.Steps.{StepForm, aggregate, filter, project}
use Rattle.plan_trees.specs.TreeForms.{TreeForm, scan, values, remote, step, join, union}
use Rattle.plan_trees.specs.TreeTypes.{types_of}
use Rattle.plan_trees.specs.Allowed.{scanned}

-- what a step asks of its input, whose columns have the types
abbrev pub StepFits : List SqlType → StepForm → Type 0
StepFits types (filter predicate) = IsTyped types predicate
StepFits types (project columns) = (0 < length columns) × AllTyped types columns
StepFits types (aggregate keys calls) = (0 < length keys + length calls) × IsTrue (are_allowed types calls)
StepFits types s = Unit {0}

-- each node has a column
abbrev pub FitsTables : TreeForm → List (List (List Value)) → Type 0
FitsTables (scan id table columns types) tables =
    (0 < length types) × (length types ≡ length columns) × AllFit types (scanned tables table columns)
FitsTables (values id types constants) tables = (0 < length types) × AllFit types constants
FitsTables (remote id input) tables = FitsTables input tables
FitsTables (step id s input) tables = StepFits (types_of input) s × FitsTables input tables
FitsTables (join id kind on left right) tables = FitsTables left tables × FitsTables right tables
FitsTables (union id left right) tables = (types_of left ≡ types_of right) × FitsTables left tables × FitsTables right tables

-- each row of each table has a value of the type of each column
abbrev pub TablesFit : List Table → Type 0
TablesFit tables = All (λ table. AllFit (kinds table.columns) table.rows) tables

-- there is the table, with the columns
pub record IsReadFrom (tables : List Table) (place : ℕ) (columns : List ℕ) : Type 0 where
  pub table : Table
  pub is_table : slice_get tables place ≡ Some table
  pub some : 0 < length columns
  pub within : All (λ column. column < length table.columns) columns

-- the column at a place has the type, if there is one
abbrev pub IsOrMissing : Option SqlType → SqlType → Type 0
IsOrMissing None kind = Unit {0}
IsOrMissing (Some own) kind = own ≡ kind

abbrev pub ColumnFits : List SqlType → ℕ → SqlType → Type 0
ColumnFits own column kind = IsOrMissing (slice_get own column) kind

abbrev pub ColumnsFit : List SqlType → List ℕ → List SqlType → Type 0
ColumnsFit own (column ∷ columns) (kind ∷ kinds) = ColumnFits own column kind × ColumnsFit own columns kinds
ColumnsFit own columns kinds = Unit {0}
