use Rattle.std.proofs.Common.{◌≡◌, get_or, take, map}
use Rattle.sql_values.specs.declared.value.Value.TheVariants.{Null}
use Rattle.sql_values.proofs.column_rows.cells_at.Given as goal

abbrev pub invariant-loop-column : goal.invariant-loop-column
invariant-loop-column l = l.values.items ≡ map (λ c. get_or c.cells l.place Null) (take l.column-index l.columns)
