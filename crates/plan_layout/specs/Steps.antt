-- What runs in the pipe of a node: along inputs and left sides down to a scan, constant rows, a remote source or a
-- union.
use Rattle.std.specs.Prelude.{ℕ, ◌+◌, List, [], ◌∷◌, ◌++◌, Bool, true, false, not, ◌&&◌, if◌then◌else◌, slice_get, Option, Some, None}
use Rattle.std.specs.List.{list_any}
use Rattle.sql_values.specs.declared.relational.Call.{Call}
use Rattle.plan_docs.specs.declared.node.NodeStep.{NodeStep}
use Rattle.plan_docs.specs.declared.node.NodeStep.TheVariants as half
use Rattle.plan_docs.specs.Nodes.{NodeForm}
use Rattle.plan_docs.specs.Nodes as node
use Rattle.plan_docs.specs.Operators.{OperatorForm}
use Rattle.plan_docs.specs.Operators as operators
use Rattle.plan_trees.specs.HalvedSteps.{whole_step}
use Rattle.plan_trees.specs.HalvedSteps as halved
use Rattle.plan_docs.specs.Plans.{FragmentForm}
use Rattle.plan_layout.specs.Pipes.{SourceForm, StepForm, TargetForm, table, rows, sides, fragment, does, filter, project, probe, aggregate, partial, final, sort, cell}

abbrev pub source_of : NodeForm → SourceForm
source_of (node.scan id place columns types) = table place columns types
source_of (node.values id types list) = rows types list
source_of (node.remote id number) = fragment number
source_of (node.step id operator input) = source_of input
source_of (node.join id kind on filters left right) = source_of left
source_of (node.union id left right) = sides

-- the number of the scan that is the source
abbrev pub scan_read : NodeForm → Option ℕ
scan_read (node.scan id place columns types) = Some id
scan_read (node.values id types list) = None
scan_read (node.remote id number) = None
scan_read (node.step id operator input) = scan_read input
scan_read (node.join id kind on filters left right) = scan_read left
scan_read (node.union id left right) = None

-- how many pipes begin below a node, its own one apart: at the right side of each join, and at each side of a union
abbrev pub side_count : NodeForm → ℕ
side_count (node.scan id place columns types) = 0
side_count (node.values id types list) = 0
side_count (node.remote id number) = 0
side_count (node.step id operator input) = side_count input
side_count (node.join id kind on filters left right) = side_count left + (1 + side_count right)
side_count (node.union id left right) = 1 + side_count left + (1 + side_count right)

abbrev pub aggregate_step : ℕ → NodeStep → List ℕ → List Call → StepForm
aggregate_step id half.Single keys calls = aggregate id keys calls
aggregate_step id half.Partial keys calls = partial id keys calls

-- the FINAL half of an operator of which the other half is read
abbrev pub other_half : ℕ → OperatorForm → List StepForm
other_half id (operators.part step (halved.aggregate keys calls)) = final id keys calls ∷ []
other_half id (operators.part step h) = does id (whole_step h) ∷ []
other_half id operator = []

-- the step of a FINAL node whose source reads this root
abbrev pub final_of : ℕ → NodeForm → List StepForm
final_of id (node.step other operator input) = other_half id operator
final_of id node = []

abbrev pub final_in : ℕ → Option FragmentForm → List StepForm
final_in id None = []
final_in id (Some f) = final_of id f.root

abbrev pub final_over : List FragmentForm → ℕ → NodeForm → List StepForm
final_over fragments id (node.remote source number) = final_in id (slice_get fragments number)
final_over fragments id node = []

-- the step of an operator over its input
abbrev pub operator_steps : List FragmentForm → ℕ → OperatorForm → NodeForm → List StepForm
operator_steps fragments id (operators.filter predicate) input = filter id predicate ∷ []
operator_steps fragments id (operators.project columns) input = project id columns ∷ []
operator_steps fragments id (operators.sort keys) input = sort id keys ∷ []
operator_steps fragments id (operators.part step (halved.aggregate keys calls)) input = aggregate_step id step keys calls ∷ []
operator_steps fragments id (operators.part step h) input = does id (whole_step h) ∷ []
operator_steps fragments id (operators.final name) input = final_over fragments id input

-- the steps from the source on. `next` is the place of the first pipe that begins below the node
abbrev pub steps_of : List FragmentForm → ℕ → NodeForm → List StepForm
steps_of fragments next (node.scan id place columns types) = []
steps_of fragments next (node.values id types list) = []
steps_of fragments next (node.remote id number) = []
steps_of fragments next (node.step id operator input) = steps_of fragments next input ++ operator_steps fragments id operator input
steps_of fragments next (node.join id kind on filters left right) =
    steps_of fragments next left ++ probe id kind on (next + side_count left) ∷ []
steps_of fragments next (node.union id left right) = []

-- several drivers may share what they read: a table, or what other tasks give
abbrev pub is_shared : SourceForm → Bool
is_shared (table place columns types) = true
is_shared (fragment number) = true
is_shared source = false

-- groups have to be whole in one driver
abbrev pub groups_rows : StepForm → Bool
groups_rows (aggregate id keys calls) = true
groups_rows (final id keys calls) = true
groups_rows step = false

abbrev pub builds : TargetForm → Bool
builds (cell build) = true
builds target = false

-- so many drivers where several may run it, and else one
abbrev pub drivers_in_task : ℕ → SourceForm → List StepForm → TargetForm → ℕ
drivers_in_task drivers source steps target =
    if is_shared source && (not (list_any groups_rows steps) && not (builds target)) then drivers else 1
