-- The types that a pipe has where it runs a plan.
use Rattle.std.specs.Prelude.{◌≡◌}
use Rattle.plan_trees.specs.TreeTypes.{types_of}
use Rattle.plan_run_laws.specs.RunPlans.{RunPlan, tree_of_run}
use Rattle.driver_net_laws.specs.Operators.{types_of_source}
use Rattle.driver_net_laws.specs.Types.{PipeTypes}
use Rattle.plan_run_laws.specs.HalvedSteps.{HalvedForm}
use Rattle.net_laws.specs.Halves.{half_types}

-- it takes the rows of the plan's source, and gives those of the plan
pub record HasTypes (run : RunPlan) (types : PipeTypes) : Type 0 where
  pub taken : types.taken ≡ types_of_source run
  pub given : types.given ≡ types_of (tree_of_run run)

-- with the first half of an operator behind the plan
pub record HasHalfTypes (run : RunPlan) (half : HalvedForm) (types : PipeTypes) : Type 0 where
  pub taken : types.taken ≡ types_of_source run
  pub before : types.before ≡ types_of (tree_of_run run)
  pub given : types.given ≡ half_types half (types_of (tree_of_run run))
