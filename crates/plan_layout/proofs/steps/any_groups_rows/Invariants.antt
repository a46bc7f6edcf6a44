use Rattle.std.proofs.Common.{◌≡◌, drop, map}
use Rattle.std.specs.List.{list_any}
use Rattle.plan_layout.specs.Pipes.{step_view}
use Rattle.plan_layout.specs.Steps.{groups_rows}
use Rattle.plan_layout.proofs.steps.any_groups_rows.Given as goal

abbrev pub invariant-loop-step : goal.invariant-loop-step
invariant-loop-step l =
    list_any groups_rows (map step_view l.steps) ≡ list_any groups_rows (map step_view (drop l.step-index l.steps))
