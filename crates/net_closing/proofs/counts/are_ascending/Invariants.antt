use Rattle.std.proofs.Common.{ℕ, ◌+◌, ◌<◌}
use Rattle.std.specs.Prelude.{slice_index}
use Rattle.net_closing.specs.Counts.{filters_in}
use Rattle.net_closing.proofs.counts.are_ascending.Given as goal

-- the ids up to the place are in ascending order
abbrev pub invariant-loop-place : goal.invariant-loop-place
invariant-loop-place l = (k : ℕ) → k + 1 < l.place → slice_index (filters_in l.counts) k < slice_index (filters_in l.counts) (k + 1)
