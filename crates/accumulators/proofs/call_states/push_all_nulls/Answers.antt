use Rattle.std.proofs.Common.{◌∙◌, arith}
use Rattle.accumulators.proofs.GroupLemmas.{nulls-more}
use Rattle.accumulators.proofs.call_states.push_all_nulls.Goals as goal

pub loop-state-preserved : goal.loop-state-preserved
loop-state-preserved c =
    c.in_ok-push_nulls.ensures
    ∙ nulls-more c.args.values.now.items c.loop-state.values.items c.args.states.now c.loop-state.state-index c.state-item.result c.width.result
    (omega arith) c.state-item.is c.width.ensures c.loop-state.invariant
