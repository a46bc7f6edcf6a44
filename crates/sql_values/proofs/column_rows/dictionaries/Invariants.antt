use Rattle.std.proofs.Common.{◌≡◌, ◌++◌}
use Rattle.std.specs.Vec.Iter.{into_iter_items}
use Rattle.sql_values.proofs.column_rows.dictionaries.Given as goal

-- the columns so far, before those that are left
abbrev pub invariant-loop-column : goal.invariant-loop-column
invariant-loop-column l = l.shared.items ++ into_iter_items l.column-iterator ≡ l.fn.columns.items
