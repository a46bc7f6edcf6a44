-- What a node over one input does.
use Rattle.std.specs.Prelude.{List, map}
use Rattle.sql_values.specs.declared.order.KeySpec.{KeySpec}
use Rattle.sql_exprs.specs.Forms.{Form, form_view}
use Rattle.plan_trees.specs.HalvedSteps.{Halved, HalvedForm}
use Rattle.plan_trees.specs.HalvedSteps as halved
use Rattle.plan_docs.specs.declared.node.NodeOperator.{NodeOperator}
use Rattle.plan_docs.specs.declared.node.NodeStep.{NodeStep}

-- of what has halves a node does the whole, or the PARTIAL half; or it does the FINAL half of what is read
pub data OperatorForm : Type 0 where
  filter : Form → OperatorForm
  project : List Form → OperatorForm
  sort : List KeySpec → OperatorForm
  part : NodeStep → HalvedForm → OperatorForm
  final : Halved → OperatorForm

abbrev pub operator_view : NodeOperator → OperatorForm
operator_view (NodeOperator.Filter predicate) = filter (form_view predicate)
operator_view (NodeOperator.Project columns) = project (map form_view columns.items)
operator_view (NodeOperator.Sort keys) = sort keys
operator_view (NodeOperator.Aggregate half keys calls) = part half (halved.aggregate keys calls)
operator_view (NodeOperator.TopN half count keys) = part half (halved.topn count keys)
operator_view (NodeOperator.Limit half count) = part half (halved.limit count)
operator_view NodeOperator.AggregateFinal = final halved.aggregates
operator_view NodeOperator.TopNFinal = final halved.top_ns
operator_view NodeOperator.LimitFinal = final halved.limits
