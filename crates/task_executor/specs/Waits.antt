-- Where a driver waits.
use Rattle.std.specs.Prelude.{◌≡◌, ◌⊎◌, ℕ, List, true, false, Contains}
use Rattle.stage_moves.specs.Looks.{Looks}
use Rattle.driver_loop.specs.Drivers.{DriverState}
use Rattle.driver_loop.specs.Ends.{source_looks, target_looks}
use Rattle.driver_loop.specs.contracts.stage.StageOperator.TheImpl.{ghosts}
use Rattle.driver_loop.specs.declared.stage.Stage.{Stage}

-- a stage waits at this bell for what it does not know: its last look in vain was handed this count
pub record StageWaits (stages : List Stage) (bell seen : ℕ) : Type 0 where
  pub stage : Stage
  pub there : Contains stages stage
  pub waits : ghosts.waits stage ≡ true
  pub unknown : ghosts.knows stage ≡ false
  pub bell_is : bell ≡ ghosts.bell stage
  pub handed : ghosts.looked_at stage ≡ seen

-- so does its source, or its target
pub record EndWaits (looks : Looks) (bell seen : ℕ) : Type 0 where
  pub bell_is : bell ≡ looks.bell
  pub handed : looks.looked_at ≡ seen

abbrev pub WaitsAt : DriverState → ℕ → ℕ → Type 0
WaitsAt d bell seen = StageWaits d.stages bell seen ⊎ (EndWaits (source_looks d.source) bell seen ⊎ EndWaits (target_looks d.target) bell seen)
