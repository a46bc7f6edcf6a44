use Rattle.std.proofs.Common.{arith}
use Rattle.sql_values.proofs.BlockLemmas.{of_values-more}
use Rattle.sql_values.proofs.plain_block.PlainBlock.of_values.Goals as goal

pub loop-value-preserved : goal.loop-value-preserved
loop-value-preserved c =
    of_values-more c.args.kind c.args.values.now c.loop-value.value-index c.loop-value.block _ _ _ c.loop-value.invariant (rw c.as_ref.ensures c.value-item.is) c.loop-value-test.true c.in_ok-push.ensures.taken c.in_ok-push.ensures.ok (c.requires c.loop-value.value-index _ c.loop-value-test.true)
