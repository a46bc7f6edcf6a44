use Rattle.std.proofs.Common.{arith}
use Rattle.sql_values.proofs.ColumnRowsLemmas.{cut_cells, in_place-step}
use Rattle.page_processor.proofs.project.truncate_each.Goals as goal

pub loop-block-preserved : goal.loop-block-preserved
loop-block-preserved c =
    rw (c.truncate.ensures, ← c.block-item.is)
    (in_place-step (cut_cells 0 c.args.len) _ c.deref_mut-block-items.result.now _ c.block-item.result c.loop-block.invariant (omega arith) c.block-item.is)
