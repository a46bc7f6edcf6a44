use Rattle.plan_wiring.specs.Bells.{gather_bells}
use Rattle.plan_wiring.specs.Shares.{new_edge}
use Rattle.plan_wiring.specs.Wirings.{gather_view}
use Rattle.plan_wiring.proofs.BellLemmas.{one_more, ring_more}
use Rattle.plan_wiring.proofs.shared.new_gathers.Goals as goal

pub loop-task-preserved : goal.loop-task-preserved
loop-task-preserved c = (
  one_more gather_view (new_edge c.args.putters) c.loop-task._task c.loop-task.gathers.items c.push.new.self.items c.in_ok-new_gather.field-0 c.in_ok-push.ensures.items c.loop-task.invariant.0
      c.in_ok-new_gather.ensures.is,
  ring_more gather_bells c.args.bells.now.next c.loop-task.bells.next c.new_gather.new.bells.next c.loop-task.gathers.items c.push.new.self.items c.in_ok-new_gather.field-0
      c.in_ok-push.ensures.items c.loop-task.invariant.1 c.in_ok-new_gather.ensures.bells,
)
