-- The dynamic filters of a plan, and what one of them counts, with no word of drivers.
use Rattle.std.specs.Prelude.{◌≡◌, ◌⊎◌, ℕ, List, All, Contains, map, slice_get, Some}
use Rattle.std.specs.List.Sorted.{IsStrictlyIncreasing}
use Rattle.plan_docs.specs.declared.node.DynamicFilter.{DynamicFilter}
use Rattle.plan_docs.specs.Nodes.{NodeForm, scan, values, remote, step, join, union}
use Rattle.plan_docs.specs.Plans.{FragmentForm, PlanForm}
use Rattle.plan_trees.specs.declared.tree.Pair.{Pair}
use Rattle.plan_trees.specs.Allowed.{scanned}
use Rattle.plan_trees.specs.TreeForms.{TreeForm}
use Rattle.plan_run_laws.specs.Spreads.{Tables}
use Rattle.plan_layout.specs.declared.filters.PlacedFilter.{PlacedFilter}
use Rattle.plan_layout.specs.Filters.{scan_filters}
use Rattle.plan_layout.specs.Pipes.{PipeForm}
use Rattle.net_laws.specs.ScanFilters.{IsCountOf, ScanFilter, up_to_id}
use Rattle.net_laws.specs.PlanCounts.{IsFilterOfJoin}
use Rattle.net_laws.specs.RightSides.{HasTable}

-- a join of this id, with these pairs of columns, has the filter
abbrev pub HasFilter : NodeForm → ℕ → List Pair → DynamicFilter → Type 0
HasFilter (scan id table columns types) at pairs f = ⊥
HasFilter (values id types rows) at pairs f = ⊥
HasFilter (remote id fragment) at pairs f = ⊥
HasFilter (step id operator input) at pairs f = HasFilter input at pairs f
HasFilter (join id kind on filters left right) at pairs f =
    ((id ≡ at) × (on ≡ pairs) × Contains filters f) ⊎ (HasFilter left at pairs f ⊎ HasFilter right at pairs f)
HasFilter (union id left right) at pairs f = HasFilter left at pairs f ⊎ HasFilter right at pairs f

-- it is one of the plan's
pub record IsFilterOfPlan (plan : PlanForm) (join : ℕ) (on : List Pair) (f : DynamicFilter) : Type 0 where
  pub part : FragmentForm
  pub there : Contains plan.fragments part
  pub has : HasFilter part.root join on f

-- the filter stands among those of the scan that a pipe of the layout reads
pub record HasPlace (layout : List PipeForm) (f : DynamicFilter) : Type 0 where
  pub at : ℕ
  pub pipe : PipeForm
  pub there : slice_get layout at ≡ Some pipe
  pub place : ℕ
  pub own : PlacedFilter
  pub is : slice_get (scan_filters layout pipe) place ≡ Some own
  pub same : own.filter ≡ f

-- The scan's filter is one of the plan's for this scan, with its keys.
pub record IsFilterForScan (plan : PlanForm) (tree : TreeForm) (tables : Tables) (scan : ℕ) (s : ScanFilter) : Type 0 where
  pub join : ℕ
  pub on : List Pair
  pub filter : DynamicFilter
  pub of : IsFilterOfPlan plan join on filter
  pub for : filter.scan ≡ scan
  pub is : IsFilterOfJoin tree tables join on filter s

-- The filter is one of the plan's, and the number is a count of those rows of its scan's table, cut to the scan's columns, that
-- pass the filters which the plan has for the scan, with an id up to that of this one: there is one list of keys for each of these.
pub record IsCountOfFilter (plan : PlanForm) (tree : TreeForm) (tables : Tables) (f : DynamicFilter) (number : ℕ) : Type 0 where
  pub join : ℕ
  pub on : List Pair
  pub own : IsFilterOfPlan plan join on f
  pub table : ℕ
  pub columns : List ℕ
  pub scans : HasTable tree f.scan table columns
  pub filters : List ScanFilter
  pub each : All (IsFilterForScan plan tree tables f.scan) filters
  pub all : (join : ℕ) (on : List Pair) (other : DynamicFilter) → IsFilterOfPlan plan join on other → other.scan ≡ f.scan
      → (s : ScanFilter) × Contains filters s × (s.id ≡ other.id)
  pub once : IsStrictlyIncreasing (map (λ (s : ScanFilter). s.id) filters)
  pub counts : IsCountOf (up_to_id f.id filters) (scanned tables table columns) number
