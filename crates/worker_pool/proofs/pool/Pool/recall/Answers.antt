use Rattle.std.proofs.Common.{ℕ, ap, ◌∙◌}
use Rattle.worker_pool.specs.Items.{PlacedItem}
use Rattle.worker_pool.specs.Pools.{PoolState, weigh, with_returned}
use Rattle.worker_pool.proofs.RecallLemmas.{kept_weighs}
use Rattle.worker_pool.proofs.pool.Pool.recall.Goals as goal

pub loop-work-preserved : goal.loop-work-preserved
loop-work-preserved g c h =
    let taken : ℕ × PlacedItem g.row.T.Denot = (c.in-Some._work, c.in-Some.runner) in
    let old : PoolState g.row.T.Denot = record {
      ready = c.self.inside.ready;
      returned = c.self.inside.returned.items;
      at_work = c.self.inside.at_work;
      first_failed = c.self.inside.first_failed;
      is_short = c.self.inside.is_short;
    } in
    let pool : PoolState g.row.T.Denot = record old { ready = c.take.new.self } in
    ap (weigh h) c.in_ok-keep.ensures ∙ (ap (λ x. weigh h (with_returned g.T.TakesTurns.has_failed x pool)) c.give_back.ensures
    ∙ (kept_weighs g.T.TakesTurns.has_failed old c.take.new.self taken c.in-Some.ensures h ∙ (ap (weigh h) c.self.view_is ∙ c.loop-work.invariant h)))
