-- Which tasks and drivers a pipe has.
use Rattle.std.specs.Prelude.{◌≡◌, ℕ, List, slice_get, Some}
use Rattle.plan_docs.specs.Plans.{FragmentForm}
use Rattle.plan_spreads.specs.Runs.{tasks_of}
use Rattle.plan_layout.specs.declared.pipe.Parallelism.{Parallelism}
use Rattle.plan_layout.specs.Pipes.{PipeForm}
use Rattle.plan_layout.specs.Steps.{drivers_in_task}

-- the tasks of its fragment, and in each so many drivers as may run it
pub record IsManned (p : Parallelism) (fragments : List FragmentForm) (pipe : PipeForm) : Type 0 where
  pub part : FragmentForm
  pub is : slice_get fragments pipe.fragment ≡ Some part
  pub tasks : pipe.tasks ≡ tasks_of p.tasks part.placement
  pub drivers : pipe.drivers ≡ drivers_in_task (tasks_of p.drivers part.placement) pipe.source pipe.steps pipe.target

abbrev pub AreManned : Parallelism → List FragmentForm → List PipeForm → Type 0
AreManned p fragments layout = (at : ℕ) (pipe : PipeForm) → slice_get layout at ≡ Some pipe → IsManned p fragments pipe
