-- A plan as it runs: the nodes of a tree, and the edges at which rows pass between tasks.
use Rattle.std.specs.Prelude.{ℕ, List}
use Rattle.sql_values.specs.declared.types.SqlType.{SqlType}
use Rattle.sql_values.specs.declared.value.Value.{Value}
use Rattle.sql_values.specs.declared.order.KeySpec.{KeySpec}
use Rattle.sql_values.specs.declared.relational.Call.{Call}
use Rattle.sql_values.specs.declared.relational.JoinKind.{JoinKind}
use Rattle.sql_exprs.specs.Forms.{Form}
use Rattle.plan_trees.specs.TreeForms.{TreeForm}
use Rattle.plan_trees.specs.TreeForms as tree
use Rattle.plan_trees.specs.Steps.{StepForm}
use Rattle.plan_trees.specs.Steps as steps
use Rattle.plan_trees.specs.HalvedSteps.{HalvedForm, whole_step}
use Rattle.plan_trees.specs.HalvedSteps as halved

-- where the rows of a fragment go: to the one task that reads them, each to the task that is
-- the bucket of its columns, or all to each task
pub data Output : Type 0 where
  single : Output
  hashed : List ℕ → Output
  broadcast : Output

-- each node begins with its id. A remote source has the output kind, and how many tasks run the
-- fragment below. A FINAL node, its remote source and the PARTIAL node below are one (`halves`), with the
-- first two's ids
pub data RunPlan : Type 0 where
  scan : ℕ → ℕ → List ℕ → List SqlType → RunPlan
  values : ℕ → List SqlType → List (List Value) → RunPlan
  remote : ℕ → Output → ℕ → RunPlan → RunPlan
  step : ℕ → StepForm → RunPlan → RunPlan
  halves : ℕ → ℕ → Output → ℕ → HalvedForm → RunPlan → RunPlan
  join : ℕ → JoinKind → List (ℕ × ℕ) → RunPlan → RunPlan → RunPlan
  union : ℕ → RunPlan → RunPlan → RunPlan

pattern abbrev pub filter : ℕ → Form → RunPlan → RunPlan
filter id predicate input = step id (steps.filter predicate) input

pattern abbrev pub project : ℕ → List Form → RunPlan → RunPlan
project id columns input = step id (steps.project columns) input

pattern abbrev pub aggregate : ℕ → List ℕ → List Call → RunPlan → RunPlan
aggregate id keys calls input = step id (steps.aggregate keys calls) input

pattern abbrev pub sort : ℕ → List KeySpec → RunPlan → RunPlan
sort id keys input = step id (steps.sort keys) input

pattern abbrev pub topn : ℕ → ℕ → List KeySpec → RunPlan → RunPlan
topn id count keys input = step id (steps.topn count keys) input

pattern abbrev pub limit : ℕ → ℕ → RunPlan → RunPlan
limit id count input = step id (steps.limit count) input

pattern abbrev pub aggregate_parts : ℕ → ℕ → Output → ℕ → List ℕ → List Call → RunPlan → RunPlan
aggregate_parts id source output tasks keys calls input = halves id source output tasks (halved.aggregate keys calls) input

pattern abbrev pub topn_parts : ℕ → ℕ → Output → ℕ → ℕ → List KeySpec → RunPlan → RunPlan
topn_parts id source output tasks count keys input = halves id source output tasks (halved.topn count keys) input

pattern abbrev pub limit_parts : ℕ → ℕ → Output → ℕ → ℕ → RunPlan → RunPlan
limit_parts id source output tasks count input = halves id source output tasks (halved.limit count) input

-- the tree that it means
abbrev pub tree_of_run : RunPlan → TreeForm
tree_of_run (scan id table columns types) = tree.scan id table columns types
tree_of_run (values id types rows) = tree.values id types rows
tree_of_run (remote id output tasks input) = tree.remote id (tree_of_run input)
tree_of_run (step id s input) = tree.step id s (tree_of_run input)
tree_of_run (halves id source output tasks h input) =
    tree.step id (whole_step h) (tree.remote source (tree_of_run input))
tree_of_run (join id kind on left right) =
    tree.join id kind on (tree_of_run left) (tree_of_run right)
tree_of_run (union id left right) = tree.union id (tree_of_run left) (tree_of_run right)
