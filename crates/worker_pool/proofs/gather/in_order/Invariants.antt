use Rattle.worker_pool.specs.Gathered.{AreFirst}
use Rattle.worker_pool.proofs.gather.in_order.Given as goal

abbrev pub invariant-loop-one : goal.invariant-loop-one
invariant-loop-one g l = AreFirst g.T.TakesTurns.follows g.J.Roster.came l.items.items
