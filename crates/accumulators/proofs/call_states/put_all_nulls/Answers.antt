use Rattle.std.proofs.Common.{arith}
use Rattle.accumulators.proofs.GroupLemmas.{nulls-put}
use Rattle.accumulators.proofs.call_states.put_all_nulls.Goals as goal

pub loop-state-preserved : goal.loop-state-preserved
loop-state-preserved c =
    nulls-put c.args.rows.now c.loop-state.rows c.put_nulls.new.rows c.args.states.now c.loop-state.state-index c.state-item.result c.width.result
    (omega arith) c.state-item.is c.width.ensures c.loop-state.invariant c.in_ok-put_nulls.ensures
