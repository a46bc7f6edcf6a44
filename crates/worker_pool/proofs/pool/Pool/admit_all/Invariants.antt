use Rattle.std.proofs.Common.{◌≡◌, ◌+◌, drop, length}
use Rattle.std.specs.Vec.Iter.{into_iter_items}
use Rattle.worker_pool.specs.Pools.{all_admitted}
use Rattle.worker_pool.proofs.pool.Pool.admit_all.Given as goal

abbrev pub invariant-loop-item : goal.invariant-loop-item
invariant-loop-item g l = record {
  rest : drop l.place l.fn.items.items ≡ into_iter_items l.item-iterator;
  within : l.place + length (into_iter_items l.item-iterator) ≡ length l.fn.items.items;
  pool : all_admitted g.T.TakesTurns.work g.T.TakesTurns.is_finished g.T.TakesTurns.has_failed l.place (into_iter_items l.item-iterator) l.self
      ≡ all_admitted g.T.TakesTurns.work g.T.TakesTurns.is_finished g.T.TakesTurns.has_failed 0 l.fn.items.items l.fn.self;
}
