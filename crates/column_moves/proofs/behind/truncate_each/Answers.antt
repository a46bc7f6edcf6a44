use Rattle.std.proofs.Common.{arith}
use Rattle.sql_values.proofs.ColumnRowsLemmas.{cut_cells, in_place-step}
use Rattle.column_moves.proofs.behind.truncate_each.Goals as goal

pub loop-column-preserved : goal.loop-column-preserved
loop-column-preserved c =
    rw (c.truncate.ensures, ← c.column-item.is)
    (in_place-step (cut_cells 0 c.args.len) _ c.deref_mut-column-items.result.now _ c.column-item.result c.loop-column.invariant (omega arith) c.column-item.is)
