use Rattle.plan_wiring.specs.Bells.{spread_bells}
use Rattle.plan_wiring.specs.Shares.{new_edge}
use Rattle.plan_wiring.specs.Wirings.{spread_view}
use Rattle.plan_wiring.proofs.BellLemmas.{one_more, ring_more}
use Rattle.plan_wiring.proofs.shared.new_spreads.Goals as goal

pub loop-task-preserved : goal.loop-task-preserved
loop-task-preserved c = (
  one_more spread_view (new_edge c.args.takers) c.loop-task._task c.loop-task.spreads.items c.push.new.self.items c.in_ok-new_spread.field-0 c.in_ok-push.ensures.items c.loop-task.invariant.0
      c.in_ok-new_spread.ensures.is,
  ring_more spread_bells c.args.bells.now.next c.loop-task.bells.next c.new_spread.new.bells.next c.loop-task.spreads.items c.push.new.self.items c.in_ok-new_spread.field-0
      c.in_ok-push.ensures.items c.loop-task.invariant.1 c.in_ok-new_spread.ensures.bells,
)
