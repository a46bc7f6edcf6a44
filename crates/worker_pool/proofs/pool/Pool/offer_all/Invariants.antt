use Rattle.std.proofs.Common.{◌≡◌, length}
use Rattle.worker_pool.specs.Pools.{all_offered}
use Rattle.worker_pool.proofs.pool.Pool.offer_all.Given as goal

abbrev pub invariant-loop-waiter : goal.invariant-loop-waiter
invariant-loop-waiter g l = all_offered g.T.TakesTurns.work l.waiters l.self ≡ all_offered g.T.TakesTurns.work l.fn.waiters l.fn.self

abbrev pub decreases-loop-waiter : goal.decreases-loop-waiter
decreases-loop-waiter g l = length l.waiters
