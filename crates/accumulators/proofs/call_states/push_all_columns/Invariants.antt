use Rattle.std.proofs.Common.{◌≡◌, ◌++◌, take}
use Rattle.accumulators.specs.Kept.{all_columns}
use Rattle.accumulators.proofs.call_states.push_all_columns.Given as goal

abbrev pub invariant-loop-state : goal.invariant-loop-state
invariant-loop-state l = l.values.items ≡ l.initial.values.items ++ all_columns (take l.state-index l.states)
