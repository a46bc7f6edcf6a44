use Rattle.std.proofs.Common.{◌≡◌, ℕ}
use Rattle.std.specs.Prelude.{sum_by}
use Rattle.feedback_queue.specs.Queue.{all_waiting}
use Rattle.worker_pool.specs.Items.{PlacedItem}
use Rattle.worker_pool.specs.Pools.{weigh}
use Rattle.worker_pool.proofs.pool.Pool.recall.Given as goal

abbrev pub invariant-loop-work : goal.invariant-loop-work
invariant-loop-work g l = (h : PlacedItem g.row.T.Denot → ℕ) → weigh h l.self ≡ weigh h l.fn.self

abbrev pub decreases-loop-work : goal.decreases-loop-work
decreases-loop-work g l = sum_by (λ _. 1) (all_waiting l.self.ready)
