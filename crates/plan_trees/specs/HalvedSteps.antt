-- The steps that can be cut in halves: PARTIAL below the edge of a fragment, FINAL above it.
use Rattle.std.specs.Prelude.{ℕ, List}
use Rattle.sql_values.specs.declared.order.KeySpec.{KeySpec}
use Rattle.sql_values.specs.declared.relational.Call.{Call}
use Rattle.plan_trees.specs.Steps.{StepForm}
use Rattle.plan_trees.specs.Steps as steps

pub data HalvedForm : Type 0 where
  aggregate : List ℕ → List Call → HalvedForm
  topn : ℕ → List KeySpec → HalvedForm
  limit : ℕ → HalvedForm

-- the step that both halves are
abbrev pub whole_step : HalvedForm → StepForm
whole_step (aggregate keys calls) = steps.aggregate keys calls
whole_step (topn count keys) = steps.topn count keys
whole_step (limit count) = steps.limit count

-- their names
pub data Halved : Type 0 where
  aggregates : Halved
  top_ns : Halved
  limits : Halved

abbrev pub name_of : HalvedForm → Halved
name_of (aggregate keys calls) = aggregates
name_of (topn count keys) = top_ns
name_of (limit count) = limits
