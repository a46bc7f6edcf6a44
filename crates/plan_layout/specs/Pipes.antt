-- The form of a pipe: what it says, without the memory that holds it.
use Rattle.std.specs.Prelude.{ℕ, ◌+◌, ◌*◌, List, map, Option}
use Rattle.sql_values.specs.declared.types.SqlType.{SqlType}
use Rattle.sql_values.specs.declared.value.Value.{Value}
use Rattle.sql_values.specs.declared.relational.Call.{Call}
use Rattle.sql_values.specs.declared.relational.JoinKind.{JoinKind}
use Rattle.sql_values.specs.declared.order.KeySpec.{KeySpec}
use Rattle.sql_exprs.specs.Forms.{Form, form_view}
use Rattle.plan_docs.specs.declared.node.DynamicFilter.{DynamicFilter}
use Rattle.plan_docs.specs.declared.plan.Output.{Output}
use Rattle.plan_trees.specs.declared.tree.Pair.{Pair}
use Rattle.plan_trees.specs.Steps as steps
use Rattle.plan_layout.specs.declared.pipe.BuildSide.{BuildSide}
use Rattle.plan_layout.specs.declared.pipe.Pipe.{Pipe}
use Rattle.plan_layout.specs.declared.pipe.Series.{Series}
use Rattle.plan_layout.specs.declared.pipe.PipeSource.{PipeSource}
use Rattle.plan_layout.specs.declared.pipe.PipeSource.TheVariants.{Table, Rows, Sides, Fragment, Edge}
use Rattle.plan_layout.specs.declared.pipe.PipeStep.{PipeStep}
use Rattle.plan_layout.specs.declared.pipe.PipeStep.TheVariants.{Filter, Project, Probe, Aggregate, Partial, Final, Sort, TopN, Limit}
use Rattle.plan_layout.specs.declared.pipe.PipeTarget.{PipeTarget}
use Rattle.plan_layout.specs.declared.pipe.PipeTarget.TheVariants.{Result, Cell, Side, Readers, Takers}

-- where the rows of a pipe come from. A pipe is named by its place in the layout
pub data SourceForm : Type 0 where
  -- columns of a table, and their types
  table : ℕ → List ℕ → List SqlType → SourceForm
  rows : List SqlType → List (List Value) → SourceForm
  -- the two sides of a union, whose pipes put to this one
  sides : SourceForm
  -- a fragment, over the edge of this pipe
  fragment : ℕ → SourceForm
  -- the edge of a pipe that reads a fragment, and the numbers of that edge
  edge : ℕ → Series → SourceForm

-- each begins with the node's number
pub data StepForm : Type 0 where
  does : ℕ → steps.StepForm → StepForm
  -- of what a pipe builds
  probe : ℕ → JoinKind → List Pair → ℕ → StepForm
  -- the halves of an aggregate
  partial : ℕ → List ℕ → List Call → StepForm
  final : ℕ → List ℕ → List Call → StepForm

pattern abbrev pub filter : ℕ → Form → StepForm
filter id predicate = does id (steps.filter predicate)

pattern abbrev pub project : ℕ → List Form → StepForm
project id columns = does id (steps.project columns)

pattern abbrev pub aggregate : ℕ → List ℕ → List Call → StepForm
aggregate id keys calls = does id (steps.aggregate keys calls)

pattern abbrev pub sort : ℕ → List KeySpec → StepForm
sort id keys = does id (steps.sort keys)

pattern abbrev pub top_n : ℕ → ℕ → List KeySpec → StepForm
top_n id count keys = does id (steps.topn count keys)

pattern abbrev pub limit : ℕ → ℕ → StepForm
limit id count = does id (steps.limit count)

-- the right side of a join: the join's number, its pairs of columns, and its dynamic filters
pub record BuildForm : Type 0 where
  pub join : ℕ
  pub on : List Pair
  pub filters : List DynamicFilter

-- where the rows of a pipe go
pub data TargetForm : Type 0 where
  result : TargetForm
  -- into the cell of this pipe, as the right side of a join
  cell : BuildForm → TargetForm
  -- to the pipe whose source is a union
  side : ℕ → TargetForm
  -- to the edge of the pipe that reads the fragment, in each of its tasks
  readers : Output → ℕ → TargetForm
  -- to the drivers of the pipe whose edge it reads
  takers : ℕ → TargetForm

-- the pipelines of one node in all tasks of its fragment, with so many drivers in each
pub record PipeForm : Type 0 where
  pub fragment : ℕ
  pub tasks : ℕ
  pub drivers : ℕ
  pub numbers : Series
  pub source : SourceForm
  -- the number of the scan that reads the table, if it takes from one
  pub scan : Option ℕ
  pub steps : List StepForm
  pub target : TargetForm

-- the number in a task
abbrev pub number_in_task : Series → ℕ → ℕ
number_in_task s task = s.first + task * s.stride

-- that of a driver of a pipe
abbrev pub driver_number : PipeForm → ℕ → ℕ → ℕ
driver_number pipe task driver = number_in_task pipe.numbers task + driver

abbrev pub source_view : PipeSource → SourceForm
source_view (Table place columns types) = table place columns.now types.now
source_view (Rows types list) = rows types.now list.now
source_view Sides = sides
source_view (Fragment number) = fragment number
source_view (Edge pipe numbers) = edge pipe numbers

abbrev pub step_view : PipeStep → StepForm
step_view (Filter id predicate) = filter id (form_view predicate.now)
step_view (Project id columns) = project id (map form_view columns.now.items)
step_view (Probe id kind on built) = probe id kind on.now built
step_view (Aggregate id keys calls) = aggregate id keys.now calls.now
step_view (Partial id keys calls) = partial id keys.now calls.now
step_view (Final id keys calls) = final id keys.now calls.now
step_view (Sort id keys) = sort id keys.now
step_view (TopN id count keys) = top_n id count keys.now
step_view (Limit id count) = limit id count

abbrev pub build_view : BuildSide → BuildForm
build_view b = record { join = b.join; on = b.on.now; filters = b.filters.now }

abbrev pub target_view : PipeTarget → TargetForm
target_view Result = result
target_view (Cell build) = cell (build_view build)
target_view (Side pipe) = side pipe
target_view (Readers output pipe) = readers output.now pipe
target_view (Takers pipe) = takers pipe

abbrev pub pipe_view : Pipe → PipeForm
pipe_view p = record {
  fragment = p.fragment;
  tasks = p.tasks;
  drivers = p.drivers;
  numbers = p.numbers;
  source = source_view p.source;
  scan = p.scan;
  steps = map step_view p.steps.items;
  target = target_view p.target;
}
