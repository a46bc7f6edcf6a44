-- The pipe that gives the result.
use Rattle.std.specs.Prelude.{◌≡◌, ℕ, List, Some, slice_get}
use Rattle.plan_run_laws.specs.Nets.{IsAlone}
use Rattle.plan_layout.specs.Pipes.{PipeForm, result}

-- it is the only one that does, and has one driver
pub record IsLoneRoot (layout : List PipeForm) (pipe : PipeForm) : Type 0 where
  pub at : ℕ
  pub is : slice_get layout at ≡ Some pipe
  pub only : (other : ℕ) (q : PipeForm) → slice_get layout other ≡ Some q → q.target ≡ result → other ≡ at
  pub lone : IsAlone pipe.drivers
