-- The numbers of the drivers of a layout.
use Rattle.std.specs.Prelude.{◌≡◌, ℕ, ◌<◌, List, Bool, true, slice_get, Some}
use Rattle.plan_layout.specs.Pipes.{PipeForm, driver_number}

-- a number is that of a driver of a pipe
pub record IsCovered (layout : List PipeForm) (number : ℕ) : Type 0 where
  pub at : ℕ
  pub pipe : PipeForm
  pub is : slice_get layout at ≡ Some pipe
  pub task : ℕ
  pub has_task : task < pipe.tasks
  pub lane : ℕ
  pub has_lane : lane < pipe.drivers
  pub same : driver_number pipe task lane ≡ number

-- those that are marked are
pub record AreMarked (layout : List PipeForm) (marks : List Bool) : Type 0 where
  pub each : (number : ℕ) → slice_get marks number ≡ Some true → IsCovered layout number
