use Rattle.std.proofs.Common.{◌≡◌, ◌-◌, [], take, drop, map}
use Rattle.columns.specs.Present.{gather}
use Rattle.sql_values.specs.declared.value.Value.TheVariants.{Null}
use Rattle.sql_values.specs.Blocks.{with_cells}
use Rattle.sql_values.specs.ColumnRows.{kinds_of}
use Rattle.sql_values.proofs.column_rows.select_each.Given as goal

abbrev pub invariant-loop-column : goal.invariant-loop-column
invariant-loop-column l = l.chosen.items ≡ map (λ c. with_cells c (gather c.cells Null l.places)) (take l.column-index l.columns)
