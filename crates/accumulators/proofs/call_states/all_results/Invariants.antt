use Rattle.std.proofs.Common.{◌≡◌, drop}
use Rattle.accumulators.specs.Groups.{all_outcomes}
use Rattle.accumulators.proofs.StateLemmas.{after}
use Rattle.accumulators.proofs.call_states.all_results.Given as goal

-- the values so far, then the rest
abbrev pub invariant-loop-state : goal.invariant-loop-state
invariant-loop-state l = all_outcomes l.rows l.states ≡ after l.values.items (all_outcomes l.rows (drop l.state-index l.states))
