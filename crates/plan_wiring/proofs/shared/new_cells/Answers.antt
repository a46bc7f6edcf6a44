use Rattle.std.proofs.Common.{◌∙◌}
use Rattle.hash_join.specs.Cells.{CellState}
use Rattle.plan_wiring.proofs.BellLemmas.{bell_more, count_more}
use Rattle.plan_wiring.proofs.shared.new_cells.Goals as goal

pub loop-task-preserved : goal.loop-task-preserved
loop-task-preserved c = (
  count_more c.loop-task._task c.loop-task.cells.items c.push.new.self.items c.new.result c.in_ok-push.ensures.items c.loop-task.invariant.0,
  bell_more (λ (cell : CellState). cell.bell) c.args.bells.now.next c.loop-task.bells.next c.take.new.self.next c.loop-task.cells.items c.push.new.self.items c.new.result
      c.in_ok-push.ensures.items c.loop-task.invariant.1 (c.new.ensures ∙ c.in_ok-take.ensures.bell) c.in_ok-take.ensures.next,
)
