use Rattle.std.proofs.Common.{◌≡◌, ◌++◌, take}
use Rattle.accumulators.specs.Kept.{all_columns}
use Rattle.accumulators.proofs.call_states.put_all_columns.Given as goal

abbrev pub invariant-loop-state : goal.invariant-loop-state
invariant-loop-state l = l.rows ≡ record l.initial.rows { begun = l.initial.rows.begun ++ all_columns (take l.state-index l.states) }
