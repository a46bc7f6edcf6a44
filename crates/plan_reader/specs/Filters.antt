-- Dynamic filters: each is to name the column of a scan from which the left column of its pair comes, and its join is to be
-- an inner one.
use Rattle.std.specs.Prelude.{ℕ, ◌+◌, List, [], ◌∷◌, length, slice_get, Bool, false, not, ◌&&◌, ◌==◌, Option, Some, None}
use Rattle.std.specs.List.{position_from}
use Rattle.std.specs.Option.{option_and_then, option_or}
use Rattle.sql_values.specs.declared.relational.JoinKind.{JoinKind}
use Rattle.sql_values.specs.declared.relational.JoinKind.TheVariants.{Inner}
use Rattle.json_paths.specs.declared.key.Key.TheVariants as key
use Rattle.sql_exprs.specs.Typing.{Path, under}
use Rattle.plan_trees.specs.declared.tree.Pair.{Pair}
use Rattle.plan_trees.specs.TreeForms.{TreeForm}
use Rattle.column_origins.specs.declared.origin.Origin.{Origin}
use Rattle.column_origins.specs.Origins.{origin_of}
use Rattle.plan_docs.specs.declared.node.DynamicFilter.{DynamicFilter}
use Rattle.plan_docs.specs.Nodes.{NodeForm, scan, values, remote, step, filter, join, union}
use Rattle.plan_docs.specs.Plans.{FragmentForm, PlanForm}
use Rattle.plan_types.specs.Faults.{entry_fault}
use Rattle.plan_types.specs.Plans.{root_path}
use Rattle.plan_reader.specs.Trees.{fragment_tree, node_tree}

-- the column of a scan from which the left column of a pair comes, where the join leaves out rows without partners
abbrev pub pair_origin : JoinKind → List Pair → TreeForm → ℕ → Option Origin
pair_origin Inner on left key = option_and_then (λ pair. origin_of left pair.left) (slice_get on key)
pair_origin kind on left key = None

abbrev pub is_named : DynamicFilter → Option Origin → Bool
is_named f (Some o) = o.scan == f.scan && o.column == f.column
is_named f None = false

abbrev pub is_misdirected : JoinKind → List Pair → TreeForm → DynamicFilter → Bool
is_misdirected kind on left f = not (is_named f (pair_origin kind on left f.key))

abbrev pub join_fault : Path → JoinKind → List Pair → TreeForm → List DynamicFilter → Option Path
join_fault path kind on left filters = entry_fault path key.Filters (position_from (is_misdirected kind on left) 0 filters)

-- the first filter of a node's that is, in the order of the walk: those of a join stand behind those of its sides. `reads`
-- has the tree of each fragment
abbrev pub node_fault : (ℕ → TreeForm) → Path → NodeForm → Option Path
node_fault reads path (scan id table columns types) = None
node_fault reads path (values id types rows) = None
node_fault reads path (remote id fragment) = None
node_fault reads path (step id operator input) = node_fault reads (under path key.Input) input
node_fault reads path (join id kind on filters left right) =
    option_or (node_fault reads (under path key.Left) left)
    (option_or (node_fault reads (under path key.Right) right)
    (join_fault path kind on (node_tree reads left) filters))
node_fault reads path (union id left right) =
    option_or (node_fault reads (under path key.Left) left) (node_fault reads (under path key.Right) right)

-- of the fragments from place i on
abbrev pub fragments_fault : (ℕ → TreeForm) → ℕ → List FragmentForm → Option Path
fragments_fault reads i [] = None
fragments_fault reads i (f ∷ fs) = option_or (node_fault reads (root_path i) f.root) (fragments_fault reads (i + 1) fs)

-- the trees of the fragments of a plan
abbrev pub trees_of : List FragmentForm → ℕ → TreeForm
trees_of fragments = fragment_tree (length fragments) fragments

-- the place of the first filter of a plan that is
abbrev pub first_misdirected : PlanForm → Option Path
first_misdirected plan = fragments_fault (trees_of plan.fragments) 0 plan.fragments
