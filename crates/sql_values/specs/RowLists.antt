-- The rows that a list of rows keeps, as columns or one by one.
use Rattle.std.specs.Prelude.{List}
use Rattle.sql_values.specs.declared.value.Value.{Value}
use Rattle.sql_values.specs.declared.row_list.Kept.{Kept}
use Rattle.sql_values.specs.declared.row_list.Kept.TheVariants.{Columns, Rows}

abbrev pub rows_kept : Kept → List (List Value)
rows_kept (Columns columns) = columns.rows
rows_kept (Rows rows) = rows.items
