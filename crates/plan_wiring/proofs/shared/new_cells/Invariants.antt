use Rattle.std.proofs.Common.{◌≡◌, length}
use Rattle.plan_wiring.specs.Bells.{AreNumbers}
use Rattle.plan_wiring.specs.Wirings.{cell_bells}
use Rattle.plan_wiring.proofs.shared.new_cells.Given as goal

abbrev pub invariant-loop-task : goal.invariant-loop-task
invariant-loop-task l =
    (length l.cells.items ≡ l._task) × AreNumbers l.fn.bells.next (cell_bells l.cells.items) l.bells.next
