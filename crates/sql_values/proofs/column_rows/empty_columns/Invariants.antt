use Rattle.std.proofs.Common.{◌≡◌, ◌-◌, [], take, drop, map}
use Rattle.columns.specs.Present.{gather}
use Rattle.sql_values.specs.declared.value.Value.TheVariants.{Null}
use Rattle.sql_values.specs.Blocks.{with_cells}
use Rattle.sql_values.specs.ColumnRows.{kinds_of}
use Rattle.sql_values.proofs.column_rows.empty_columns.Given as goal

abbrev pub invariant-loop-kind : goal.invariant-loop-kind
invariant-loop-kind l = l.columns.items ≡ map (λ kind. record { kind = kind; cells = [] }) (take l.kind-index l.types)
