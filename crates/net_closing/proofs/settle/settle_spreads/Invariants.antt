use Rattle.std.proofs.Common.{◌<◌, ℕ, List, map}
use Rattle.driver_loop.specs.Drivers.{DriverState}
use Rattle.driver_net_laws.specs.Settled.{SpreadIsBack, in_task, spread_takes_in}
use Rattle.plan_layout.specs.Pipes.{pipe_view}
use Rattle.net_closing.specs.Left.{ArePartsOf, StayParts}
use Rattle.net_closing.proofs.settle.settle_spreads.Given as goal

abbrev pub invariant-loop-task : goal.invariant-loop-task
invariant-loop-task l = record {
  left : StayParts l.fn.parts l.parts;
  back : (drivers : List DriverState) → ArePartsOf drivers l.fn.parts → (task : ℕ) → task < l.task
      → SpreadIsBack (map pipe_view l.layout) drivers l.at task (in_task spread_takes_in drivers (pipe_view l.pipe) task);
}
