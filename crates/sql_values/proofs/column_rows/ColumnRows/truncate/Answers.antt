use Rattle.std.proofs.Common.{◌≤◌, min, arith}
use Rattle.sql_values.proofs.ColumnRowsLemmas.{cut-columns, truncate-seen}
use Rattle.sql_values.proofs.column_rows.ColumnRows.truncate.Goals as goal

pub invariant_of-self : goal.invariant_of-self
invariant_of-self c = rw c.truncate_each.ensures (cut-columns _ _ _ _ 0 _ c.self.invariant (omega arith))

pub returns : goal.returns
returns c = rw (← c.self.view_is, c.truncate_each.ensures) (truncate-seen _ _ _ _ _ _ c.self.invariant c.min-self-inside.ensures)
