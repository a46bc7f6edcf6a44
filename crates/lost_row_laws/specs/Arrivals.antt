-- Which sieves come down to a scan, where each join has sieves of its own.
use Rattle.std.specs.Prelude.{ℕ, List, [], ◌++◌, ◌==◌, if◌then◌else◌}
use Rattle.plan_trees.specs.Allowed.{width_of}
use Rattle.plan_trees.specs.TreeTypes.{types_of}
use Rattle.column_origins.specs.Origins.{left_column}
use Rattle.plan_run_laws.specs.RunPlans.{RunPlan, tree_of_run}
use Rattle.plan_run_laws.specs.RunPlans as plan
use Rattle.lost_row_laws.specs.Sieves.{Sieve, over_input, under}

-- `own` has the sieves of each join, by its id; `sieves` come from above the node
abbrev pub arriving : (ℕ → List Sieve) → List Sieve → RunPlan → ℕ → List Sieve
arriving own sieves (plan.scan id table columns types) place = if id == place then sieves else []
arriving own sieves (plan.values id types rows) place = []
arriving own sieves (plan.remote id output m input) place = arriving own sieves input place
arriving own sieves (plan.step id s input) place = arriving own (under (types_of (tree_of_run input)) s sieves) input place
arriving own sieves (plan.halves id source output m h input) place = arriving own [] input place
arriving own sieves (plan.join id kind on left right) place =
    arriving own (over_input (left_column kind (width_of (tree_of_run left))) (own id ++ sieves)) left place
    ++ arriving own [] right place
arriving own sieves (plan.union id left right) place = arriving own [] left place ++ arriving own [] right place
