use Rattle.std.proofs.Common.{◌≡◌, length}
use Rattle.worker_pool.specs.Pools.{all_returned}
use Rattle.worker_pool.proofs.pool.Pool.keep_waiters.Given as goal

abbrev pub invariant-loop-waiter : goal.invariant-loop-waiter
invariant-loop-waiter g l = all_returned g.T.TakesTurns.has_failed l.waiters l.self ≡ all_returned g.T.TakesTurns.has_failed l.fn.waiters l.fn.self

abbrev pub decreases-loop-waiter : goal.decreases-loop-waiter
decreases-loop-waiter g l = length l.waiters
