use Rattle.std.proofs.Common.{◌≡◌, drop}
use Rattle.accumulators.specs.Groups.{all_outcomes}
use Rattle.accumulators.specs.KeptColumns.{all_kept_at}
use Rattle.accumulators.proofs.StateLemmas.{after}
use Rattle.accumulators.proofs.call_columns.results_at.Given as goal

-- the values so far, then the rest
abbrev pub invariant-loop-column : goal.invariant-loop-column
invariant-loop-column l = all_outcomes l.rows (all_kept_at l.place l.columns) ≡ after l.values.items (all_outcomes l.rows (all_kept_at l.place (drop l.column-index l.columns)))
