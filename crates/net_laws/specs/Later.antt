-- What turns leave of a driver.
use Rattle.std.specs.Prelude.{◌≡◌, List}
use Rattle.std.specs.List.{AllZip}
use Rattle.operator_core.specs.Stages.{AllCameFrom}
use Rattle.driver_loop.specs.Drivers.{DriverState, IsWhole}
use Rattle.driver_loop.specs.Ends.{source_made, target_made}
use Rattle.driver_loop.specs.contracts.stage.StageOperator.TheImpl.{ghosts}
use Rattle.driver_loop.specs.declared.stage.Stage.{Stage}

-- the driver is the other one, after some turns: it has its number, its parts were made so, and its stages may have
-- learned since
pub record IsLaterDriver (before after : DriverState) : Type 0 where
  pub number : after.number ≡ before.number
  pub source : source_made after.source ≡ source_made before.source
  pub target : IsWhole after.fault → target_made after.target ≡ target_made before.target
  pub stages : IsWhole after.fault → (made : List Stage) → AllCameFrom ghosts made before.stages → AllCameFrom ghosts made after.stages

abbrev pub AreLater : List DriverState → List DriverState → Type 0
AreLater = AllZip IsLaterDriver
