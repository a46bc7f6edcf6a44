use Rattle.std.proofs.Common.{◌≡◌, ◌<◌, ℕ, List, Some, map}
use Rattle.std.specs.Prelude.{slice_get}
use Rattle.driver_loop.specs.Drivers.{DriverState}
use Rattle.plan_layout.specs.Pipes.{PipeForm, pipe_view}
use Rattle.net_closing.specs.Back.{CameBack}
use Rattle.net_closing.specs.Left.{ArePartsOf, StayParts}
use Rattle.net_closing.proofs.settle.settle_all.Given as goal

abbrev pub invariant-loop-at : goal.invariant-loop-at
invariant-loop-at l = record {
  left : StayParts l.fn.parts l.parts;
  back : (drivers : List DriverState) → ArePartsOf drivers l.fn.parts → (at : ℕ) → at < l.at → (pipe : PipeForm) → slice_get (map pipe_view l.layout) at ≡ Some pipe
      → CameBack (map pipe_view l.layout) drivers at pipe pipe.source;
}
