use Rattle.std.proofs.Common.{drop, map}
use Rattle.plan_layout.specs.Pipes.{step_view}
use Rattle.pipe_stages.specs.Tables.{types_in}
use Rattle.pipe_stages.proofs.StepLemmas.{SoFar}
use Rattle.pipe_stages.proofs.stages.stages_of.Given as goal

abbrev pub invariant-loop-step : goal.invariant-loop-step
invariant-loop-step l =
    SoFar l.table l.cells l.task l.halved (types_in l.table l.own).taken (map step_view l.steps) (map step_view (drop l.step-index l.steps)) l.between l.stages.items
