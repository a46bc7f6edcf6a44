use Rattle.std.proofs.Common.{◌≡◌, take, map}
use Rattle.accumulators.specs.Kept.{kept_of_none}
use Rattle.accumulators.proofs.call_states.empty_states.Given as goal

abbrev pub invariant-loop-call : goal.invariant-loop-call
invariant-loop-call l = l.states.items ≡ map (kept_of_none l.types) (take l.call-index l.calls)
