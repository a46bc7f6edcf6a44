-- The pipes of a layout that build the right sides of joins, and their filters in the plan as it runs.
use Rattle.std.specs.Prelude.{◌≡◌, ℕ, List, map, slice_get, Some, All}
use Rattle.plan_trees.specs.TreeForms.{pair_view}
use Rattle.plan_docs.specs.declared.node.DynamicFilter.{DynamicFilter}
use Rattle.plan_docs.specs.Plans.{FragmentForm, PlanForm}
use Rattle.plan_run_laws.specs.RunPlans.{RunPlan}
use Rattle.plan_layout.specs.declared.filters.PlacedFilter.{PlacedFilter}
use Rattle.plan_layout.specs.Filters.{Builds, IsPlaced}
use Rattle.plan_layout.specs.Pipes.{BuildForm, PipeForm}
use Rattle.plan_layout.specs.Runs.{HasScan}
use Rattle.net_laws.specs.RunJoins.{EachJoin, ReachesIn}

-- what a pipe builds is the right side of a join of the run, by whose id, pairs and filters
abbrev pub BuiltFiltersReach : RunPlan → List PipeForm → Type 0
BuiltFiltersReach run layout =
    (at : ℕ) (build : BuildForm) → Builds layout at build → All (ReachesIn run build.join (map pair_view build.on)) build.filters

-- a pipe builds the right side of each join of the plan
abbrev pub JoinsAreBuilt : List PipeForm → PlanForm → Type 0
JoinsAreBuilt layout plan =
    All (λ (f : FragmentForm).
    EachJoin (λ id kind on filters left. (at : ℕ) × Builds layout at (record { join = id; on = on; filters = filters })) f.root) plan.fragments

-- the filters of a scan: each is one of a join of the run and reaches the scan, and each that the plan has for the scan is
-- among them
pub record AreOfPlan (run : RunPlan) (layout : List PipeForm) (plan : PlanForm) (scan : ℕ) (filters : List PlacedFilter) : Type 0 where
  pub each : (i : ℕ) (f : PlacedFilter) → slice_get filters i ≡ Some f
      → (p : IsPlaced layout f) × (f.filter.scan ≡ scan) × ReachesIn run p.build.join (map pair_view p.build.on) f.filter
  pub all : All (λ (part : FragmentForm).
      EachJoin (λ id kind on own left. (k : ℕ) (d : DynamicFilter) → slice_get own k ≡ Some d → d.scan ≡ scan
      → (i : ℕ) × (f : PlacedFilter) × (slice_get filters i ≡ Some f) × (f.filter ≡ d)) part.root) plan.fragments

-- no two pipes build the right side of one join, and no two read one scan
pub record PipesApart (layout : List PipeForm) : Type 0 where
  pub builds : (i j : ℕ) (build other : BuildForm) → Builds layout i build → Builds layout j other → build.join ≡ other.join → i ≡ j
  pub scans : (i j scan : ℕ) → HasScan layout i (Some scan) → HasScan layout j (Some scan) → i ≡ j
