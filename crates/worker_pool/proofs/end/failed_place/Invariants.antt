use Rattle.std.proofs.Common.{◌≡◌, ℕ, ◌<◌, slice_index_or, false}
use Rattle.worker_pool.proofs.end.failed_place.Given as goal

abbrev pub invariant-loop-place : goal.invariant-loop-place
invariant-loop-place g l = (k : ℕ) (d : g.row.T.Denot) → k < l.place → g.T.TakesTurns.has_failed (slice_index_or l.items k d) ≡ false
