-- The form of a node: what it says, without the memory that holds it.
use Rattle.std.specs.Prelude.{ℕ, List}
use Rattle.sql_values.specs.declared.types.SqlType.{SqlType}
use Rattle.sql_values.specs.declared.value.Value.{Value}
use Rattle.sql_values.specs.declared.relational.Call.{Call}
use Rattle.sql_values.specs.declared.relational.JoinKind.{JoinKind}
use Rattle.sql_values.specs.declared.order.KeySpec.{KeySpec}
use Rattle.sql_exprs.specs.Forms.{Form}
use Rattle.plan_docs.specs.declared.node.Node.{Node, fold-Node}
use Rattle.plan_docs.specs.declared.node.Node.TheOpen.{Node-F}
use Rattle.plan_docs.specs.declared.node.NodeStep.{NodeStep}
use Rattle.plan_trees.specs.declared.tree.Pair.{Pair}
use Rattle.plan_docs.specs.declared.node.DynamicFilter.{DynamicFilter}
use Rattle.plan_docs.specs.Operators.{OperatorForm, operator_view}
use Rattle.plan_docs.specs.Operators as operators
use Rattle.plan_trees.specs.HalvedSteps as halved

-- each begins with the node's number, and ends with what it reads
pub data NodeForm : Type 0 where
  -- table, columns, their types
  scan : ℕ → ℕ → List ℕ → List SqlType → NodeForm
  values : ℕ → List SqlType → List (List Value) → NodeForm
  remote : ℕ → ℕ → NodeForm
  step : ℕ → OperatorForm → NodeForm → NodeForm
  join : ℕ → JoinKind → List Pair → List DynamicFilter → NodeForm → NodeForm → NodeForm
  union : ℕ → NodeForm → NodeForm → NodeForm

pattern abbrev pub filter : ℕ → Form → NodeForm → NodeForm
filter id predicate input = step id (operators.filter predicate) input

pattern abbrev pub project : ℕ → List Form → NodeForm → NodeForm
project id columns input = step id (operators.project columns) input

pattern abbrev pub sort : ℕ → List KeySpec → NodeForm → NodeForm
sort id keys input = step id (operators.sort keys) input

pattern abbrev pub aggregate : ℕ → NodeStep → List ℕ → List Call → NodeForm → NodeForm
aggregate id half keys calls input = step id (operators.part half (halved.aggregate keys calls)) input

pattern abbrev pub top_n : ℕ → NodeStep → ℕ → List KeySpec → NodeForm → NodeForm
top_n id half count keys input = step id (operators.part half (halved.topn count keys)) input

pattern abbrev pub limit : ℕ → NodeStep → ℕ → NodeForm → NodeForm
limit id half count input = step id (operators.part half (halved.limit count)) input

pattern abbrev pub aggregate_final : ℕ → NodeForm → NodeForm
aggregate_final id input = step id (operators.final halved.aggregates) input

pattern abbrev pub top_n_final : ℕ → NodeForm → NodeForm
top_n_final id input = step id (operators.final halved.top_ns) input

pattern abbrev pub limit_final : ℕ → NodeForm → NodeForm
limit_final id input = step id (operators.final halved.limits) input

abbrev pub node_step : Node-F NodeForm → NodeForm
node_step (Node-F.Scan id table columns types) = scan id table columns types
node_step (Node-F.Values id types rows) = values id types rows
node_step (Node-F.Remote id fragment) = remote id fragment
node_step (Node-F.Step id operator input) = step id (operator_view operator) input.value
node_step (Node-F.Join id kind on left right filters) = join id kind on filters left.value right.value
node_step (Node-F.Union id left right) = union id left.value right.value

-- the form of a node
abbrev pub node_view : Node → NodeForm
node_view = fold-Node NodeForm node_step
