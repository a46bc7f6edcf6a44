use Rattle.std.proofs.Common.{arith}
use Rattle.accumulators.proofs.GroupLemmas.{none-group, none-view}
use Rattle.accumulators.proofs.accumulator.Accumulator.new.Goals as goal

pub invariant_of-result : goal.invariant_of-result
invariant_of-result c = none-group c.args.types.now c.args.calls.now c.in_ok-empty_states.field-0.items c.in_ok-empty_states.ensures (omega arith)

pub returns : goal.returns
returns c = none-view c.args.types.now c.args.calls.now c.in_ok-empty_states.field-0.items c.in_ok-empty_states.ensures
