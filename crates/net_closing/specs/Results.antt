-- The pipe that gives the result, and its rows.
use Rattle.std.specs.Prelude.{◌≡◌, ℕ, ◌<◌, ◌≤◌, List, [], ◌∷◌, Bool, true, false, slice_get, Some}
use Rattle.operator_core.specs.Rows.{Row}
use Rattle.driver_loop.specs.Drivers.{DriverState}
use Rattle.plan_layout.specs.Pipes.{PipeForm, TargetForm, result, cell, side, readers, takers}
use Rattle.driver_net_laws.specs.Settled.{of_lane}
use Rattle.net_closing.specs.Left.{handed_in}

abbrev pub gives_result : TargetForm → Bool
gives_result result = true
gives_result (cell on) = false
gives_result (side other) = false
gives_result (readers output other) = false
gives_result (takers other) = false

-- none of the pipes from one place up to, and without, another does
pub record NoneGives (layout : List PipeForm) (low high : ℕ) : Type 0 where
  pub each : (at : ℕ) (pipe : PipeForm) → low ≤ at → at < high → slice_get layout at ≡ Some pipe → gives_result pipe.target ≡ false

-- the pipe at a place does, and no other
pub record IsOnlyResult (layout : List PipeForm) (at : ℕ) : Type 0 where
  pub pipe : PipeForm
  pub is : slice_get layout at ≡ Some pipe
  pub gives : pipe.target ≡ result
  pub once : (other : ℕ) (p : PipeForm) → slice_get layout other ≡ Some p → p.target ≡ result → other ≡ at

-- one pipe gives the result, by one driver, and these are its rows
pub record IsResultOf (layout : List PipeForm) (drivers : List DriverState) (given : List Row) : Type 0 where
  pub at : ℕ
  pub only : IsOnlyResult layout at
  pub task : only.pipe.tasks ≡ 1
  pub driver : only.pipe.drivers ≡ 1
  pub rows : of_lane handed_in drivers only.pipe 0 0 ≡ given ∷ []
