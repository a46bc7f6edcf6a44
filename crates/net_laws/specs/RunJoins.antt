-- The joins of a plan, and their dynamic filters, in the plan as it runs.
use Rattle.std.specs.Prelude.{◌≡◌, ℕ, ◌<◌, List, length, get_or, map, Some, All}
use Rattle.sql_values.specs.declared.relational.JoinKind.{JoinKind}
use Rattle.sql_values.specs.declared.relational.JoinKind.TheVariants.{Inner}
use Rattle.plan_trees.specs.declared.tree.Pair.{Pair}
use Rattle.plan_trees.specs.Allowed.{width_of}
use Rattle.plan_trees.specs.TreeForms.{TreeForm, pair_view}
use Rattle.column_origins.specs.Origins.{origin_of}
use Rattle.plan_docs.specs.declared.node.DynamicFilter.{DynamicFilter}
use Rattle.plan_docs.specs.Nodes.{NodeForm, scan, values, remote, step, join, union}
use Rattle.plan_docs.specs.Plans.{FragmentForm, PlanForm}
use Rattle.plan_link_laws.specs.Filters.{trees_of}
use Rattle.plan_link_laws.specs.Trees.{node_tree}
use Rattle.plan_run_laws.specs.RunPlans.{RunPlan, tree_of_run}
use Rattle.sieve_laws.specs.ComingDown.{HasJoin}

-- what is said of a join: of its id, its kind, its pairs, its filters and its left side
abbrev pub JoinClaim : Type 1
JoinClaim = ℕ → JoinKind → List Pair → List DynamicFilter → NodeForm → Type 0

-- of each join of a node
abbrev pub EachJoin : JoinClaim → NodeForm → Type 0
EachJoin P (scan id table columns types) = Unit {0}
EachJoin P (values id types rows) = Unit {0}
EachJoin P (remote id fragment) = Unit {0}
EachJoin P (step id operator input) = EachJoin P input
EachJoin P (join id kind on filters left right) = P id kind on filters left × EachJoin P left × EachJoin P right
EachJoin P (union id left right) = EachJoin P left × EachJoin P right

-- the run has a join of the id and the kind whose left side means the tree
pub record HasJoinOver (run : RunPlan) (id : ℕ) (kind : JoinKind) (left : TreeForm) : Type 0 where
  pub side : RunPlan
  pub has : HasJoin run id kind side
  pub means : tree_of_run side ≡ left

-- each join of each fragment is in the run
abbrev pub HasJoins : RunPlan → PlanForm → Type 0
HasJoins run plan =
    All (λ (f : FragmentForm). EachJoin (λ id kind on filters left. HasJoinOver run id kind (node_tree (trees_of plan.fragments) left)) f.root) plan.fragments

-- the run has the filter's join, an inner one, and the left column of its pair comes from the column of the scan that the
-- filter names
pub record ReachesIn (run : RunPlan) (id : ℕ) (on : List (ℕ × ℕ)) (f : DynamicFilter) : Type 0 where
  pub pair : f.key < length on
  pub side : RunPlan
  pub has : HasJoin run id Inner side
  pub within : (get_or on f.key (0, 0)).0 < width_of (tree_of_run side)
  pub comes : origin_of (tree_of_run side) (get_or on f.key (0, 0)).0 ≡ Some (record { scan = f.scan; column = f.column })

-- so does each filter of each join of each fragment
abbrev pub FiltersReachIn : RunPlan → PlanForm → Type 0
FiltersReachIn run plan =
    All (λ (f : FragmentForm). EachJoin (λ id kind on filters left. All (ReachesIn run id (map pair_view on)) filters) f.root) plan.fragments
