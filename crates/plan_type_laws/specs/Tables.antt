-- Tables whose rows have the types of their columns.
use Rattle.std.specs.Prelude.{All, List}
use Rattle.sql_values.specs.declared.table.Table.{Table}
use Rattle.sql_values.specs.Columns.{kinds}
use Rattle.tree_type_laws.specs.TypedTrees.{HaveTypes}

abbrev pub TablesTyped : List Table → Type 0
TablesTyped tables = All (λ table. HaveTypes (kinds table.columns) table.rows) tables
