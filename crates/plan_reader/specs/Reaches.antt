-- What is known of the dynamic filters of a plan of which none is misdirected.
use Rattle.std.specs.Prelude.{◌≡◌, ℕ, List, slice_get, Some, All}
use Rattle.sql_values.specs.declared.relational.JoinKind.{JoinKind}
use Rattle.sql_values.specs.declared.relational.JoinKind.TheVariants.{Inner}
use Rattle.plan_trees.specs.declared.tree.Pair.{Pair}
use Rattle.plan_trees.specs.TreeForms.{TreeForm}
use Rattle.column_origins.specs.Origins.{origin_of}
use Rattle.plan_docs.specs.declared.node.DynamicFilter.{DynamicFilter}
use Rattle.plan_docs.specs.Nodes.{NodeForm, scan, values, remote, step, filter, join, union}
use Rattle.plan_docs.specs.Plans.{FragmentForm, PlanForm}
use Rattle.plan_reader.specs.Filters.{trees_of}
use Rattle.plan_reader.specs.Trees.{node_tree}

-- a filter of an inner join, the left column of whose pair comes from the column of the scan that the filter names
pub record ReachesScan (kind : JoinKind) (on : List Pair) (left : TreeForm) (f : DynamicFilter) : Type 0 where
  pub inner : kind ≡ Inner
  pub pair : Pair
  pub is_pair : slice_get on f.key ≡ Some pair
  pub comes : origin_of left pair.left ≡ Some (record { scan = f.scan; column = f.column })

-- each filter of each join of a node, where `reads` has the tree of each fragment
abbrev pub NodeReaches : (ℕ → TreeForm) → NodeForm → Type 0
NodeReaches reads (scan id table columns types) = Unit {0}
NodeReaches reads (values id types rows) = Unit {0}
NodeReaches reads (remote id fragment) = Unit {0}
NodeReaches reads (step id operator input) = NodeReaches reads input
NodeReaches reads (join id kind on filters left right) =
    NodeReaches reads left × NodeReaches reads right × All (ReachesScan kind on (node_tree reads left)) filters
NodeReaches reads (union id left right) = NodeReaches reads left × NodeReaches reads right

-- the filters of all fragments
abbrev pub FiltersReach : PlanForm → Type 0
FiltersReach plan = All (λ (f : FragmentForm). NodeReaches (trees_of plan.fragments) f.root) plan.fragments
