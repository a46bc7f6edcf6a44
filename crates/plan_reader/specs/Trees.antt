-- The tree that a plan is: fragments stand in place of their remote sources.
use Rattle.std.specs.Prelude.{ℕ, zero, suc, List, [], length, map, slice_get, Bool, true, false, if◌then◌else◌, Option, Some, None}
use Rattle.plan_docs.specs.Nodes.{NodeForm}
use Rattle.plan_docs.specs.Nodes as node
use Rattle.plan_docs.specs.Operators.{OperatorForm, filter, project, sort, part, final}
use Rattle.plan_docs.specs.Plans.{FragmentForm, PlanForm}
use Rattle.plan_trees.specs.TreeForms.{TreeForm, pair_view}
use Rattle.plan_trees.specs.TreeForms as tree
use Rattle.plan_trees.specs.Steps.{StepForm}
use Rattle.plan_trees.specs.Steps as steps
use Rattle.plan_trees.specs.HalvedSteps.{whole_step}

-- no rows of no columns: what stands for a fragment that is missing
abbrev pub nothing : TreeForm
nothing = tree.values 0 [] []

abbrev pub has_halves : StepForm → Bool
has_halves (steps.aggregate keys calls) = true
has_halves (steps.topn count keys) = true
has_halves (steps.limit count) = true
has_halves s = false

-- a PARTIAL node below a remote source becomes the whole one above it, with the FINAL node's number
abbrev pub whole_over : ℕ → ℕ → TreeForm → TreeForm
whole_over id source (tree.step half s input) =
    if has_halves s then tree.step id s (tree.remote source input) else tree.remote source (tree.step half s input)
whole_over id source t = tree.remote source t

-- the whole of a FINAL node over what it reads
abbrev pub whole : ℕ → TreeForm → TreeForm
whole id (tree.remote source input) = whole_over id source input
whole id t = t

-- the step that an operator is, but for a FINAL one
abbrev pub step_of : OperatorForm → Option StepForm
step_of (filter predicate) = Some (steps.filter predicate)
step_of (project columns) = Some (steps.project columns)
step_of (sort keys) = Some (steps.sort keys)
step_of (part half h) = Some (whole_step h)
step_of (final name) = None

-- the tree of a step over that of its input
abbrev pub step_over : ℕ → Option StepForm → TreeForm → TreeForm
step_over id (Some s) input = tree.step id s input
step_over id None input = whole id input

-- `reads` has the tree of each fragment; dynamic filters change no rows
abbrev pub node_tree : (ℕ → TreeForm) → NodeForm → TreeForm
node_tree reads (node.scan id table columns types) = tree.scan id table columns types
node_tree reads (node.values id types rows) = tree.values id types rows
node_tree reads (node.remote id fragment) = tree.remote id (reads fragment)
node_tree reads (node.step id operator input) = step_over id (step_of operator) (node_tree reads input)
node_tree reads (node.join id kind on filters left right) = tree.join id kind (map pair_view on) (node_tree reads left) (node_tree reads right)
node_tree reads (node.union id left right) = tree.union id (node_tree reads left) (node_tree reads right)

abbrev pub root_tree : (ℕ → TreeForm) → Option FragmentForm → TreeForm
root_tree reads None = nothing
root_tree reads (Some f) = node_tree reads f.root

-- the tree of a fragment, through so many fragments at most
unfoldable pub fragment_tree : ℕ → List FragmentForm → ℕ → TreeForm
fragment_tree zero fragments n = nothing
fragment_tree (suc more) fragments n = root_tree (fragment_tree more fragments) (slice_get fragments n)

-- that of the first one: a source reads a later fragment, so no way goes through more than there are
unfoldable pub tree_of : PlanForm → TreeForm
tree_of plan = fragment_tree (length plan.fragments) plan.fragments 0
