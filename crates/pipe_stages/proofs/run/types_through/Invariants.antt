use Rattle.std.proofs.Common.{◌≡◌, drop, map}
use Rattle.plan_layout.specs.Pipes.{step_view}
use Rattle.driver_net_laws.specs.Types.{types_through}
use Rattle.pipe_stages.specs.Tables.{types_in}
use Rattle.pipe_stages.proofs.run.types_through.Given as goal

abbrev pub invariant-loop-step : goal.invariant-loop-step
invariant-loop-step l =
    types_through (types_in l.table) l.halved (map step_view l.steps) l.taken
    ≡ types_through (types_in l.table) l.halved (map step_view (drop l.step-index l.steps)) l.between
