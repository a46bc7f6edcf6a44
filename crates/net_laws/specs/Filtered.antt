-- What is asked of the dynamic filters of a layout that runs a plan.
use Rattle.std.specs.Prelude.{List}
use Rattle.plan_run_laws.specs.RunPlans.{RunPlan}
use Rattle.plan_layout.specs.Pipes.{PipeForm}
use Rattle.sieve_laws.specs.ComingDown.{ScansApart}
use Rattle.net_laws.specs.BuiltFilters.{BuiltFiltersReach, PipesApart}

-- each scan, and each right side of a join, is found by its id; and what a pipe builds is the right side of a join of the
-- run, of which each filter reaches the scan that it names
pub record FiltersReach (layout : List PipeForm) (run : RunPlan) : Type 0 where
  pub scans : ScansApart run
  pub apart : PipesApart layout
  pub reach : BuiltFiltersReach run layout
