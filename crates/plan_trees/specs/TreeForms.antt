-- The form of a tree: what it says, without the memory that holds it.
use Rattle.std.specs.Prelude.{ℕ, List, map}
use Rattle.sql_values.specs.declared.types.SqlType.{SqlType}
use Rattle.sql_values.specs.declared.value.Value.{Value}
use Rattle.sql_values.specs.declared.order.KeySpec.{KeySpec}
use Rattle.sql_values.specs.declared.relational.Call.{Call}
use Rattle.sql_values.specs.declared.relational.JoinKind.{JoinKind}
use Rattle.sql_exprs.specs.Forms.{Form, form_view}
use Rattle.plan_trees.specs.Steps.{StepForm}
use Rattle.plan_trees.specs.Steps as steps
use Rattle.plan_trees.specs.declared.tree.Pair.{Pair}
use Rattle.plan_trees.specs.declared.tree.Tree.{Tree, fold-Tree}
use Rattle.plan_trees.specs.declared.tree.Tree.TheOpen.{Tree-F}
use Rattle.plan_trees.specs.declared.tree.TreeStep.{TreeStep}

-- each node begins with its id
pub data TreeForm : Type 0 where
  scan : ℕ → ℕ → List ℕ → List SqlType → TreeForm
  values : ℕ → List SqlType → List (List Value) → TreeForm
  remote : ℕ → TreeForm → TreeForm
  step : ℕ → StepForm → TreeForm → TreeForm
  join : ℕ → JoinKind → List (ℕ × ℕ) → TreeForm → TreeForm → TreeForm
  union : ℕ → TreeForm → TreeForm → TreeForm

pattern abbrev pub filter : ℕ → Form → TreeForm → TreeForm
filter id predicate input = step id (steps.filter predicate) input

pattern abbrev pub project : ℕ → List Form → TreeForm → TreeForm
project id columns input = step id (steps.project columns) input

pattern abbrev pub aggregate : ℕ → List ℕ → List Call → TreeForm → TreeForm
aggregate id keys calls input = step id (steps.aggregate keys calls) input

pattern abbrev pub sort : ℕ → List KeySpec → TreeForm → TreeForm
sort id keys input = step id (steps.sort keys) input

pattern abbrev pub topn : ℕ → ℕ → List KeySpec → TreeForm → TreeForm
topn id count keys input = step id (steps.topn count keys) input

pattern abbrev pub limit : ℕ → ℕ → TreeForm → TreeForm
limit id count input = step id (steps.limit count) input

-- a column of the left side and one of the right
abbrev pub pair_view : Pair → ℕ × ℕ
pair_view pair = (pair.left, pair.right)

abbrev pub step_view : TreeStep → StepForm
step_view (TreeStep.Filter predicate) = steps.filter (form_view predicate)
step_view (TreeStep.Project columns) = steps.project (map form_view columns.items)
step_view (TreeStep.Aggregate keys calls) = steps.aggregate keys calls
step_view (TreeStep.Sort keys) = steps.sort keys
step_view (TreeStep.TopN count keys) = steps.topn count keys
step_view (TreeStep.Limit count) = steps.limit count

abbrev pub tree_step : Tree-F TreeForm → TreeForm
tree_step (Tree-F.Scan id table columns types) = scan id table columns types
tree_step (Tree-F.Values id types rows) = values id types rows
tree_step (Tree-F.Remote id input) = remote id input.value
tree_step (Tree-F.Step id s input) = step id (step_view s) input.value
tree_step (Tree-F.Join id kind on left right) = join id kind (map pair_view on) left.value right.value
tree_step (Tree-F.Union id left right) = union id left.value right.value

abbrev pub tree_view : Tree → TreeForm
tree_view = fold-Tree TreeForm tree_step
