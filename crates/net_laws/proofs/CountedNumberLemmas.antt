-- What the drivers of a scan's pipe counted, as counts of the filters of the plan.
use Rattle.std.proofs.Common.{◌≡◌, None, Option, ℕ, suc, List, [], ◌∷◌, map, Some, refl, ap, sym, ◌∙◌, subst}
use Rattle.std.specs.Prelude.{All, slice_get}
use Rattle.std.specs.List.Sorted.{IsStrictlyIncreasing}
use Rattle.std.proofs.lemmas.List.Elements.{All-cons, All-nil}
use Rattle.operator_core.specs.Rows.{Row}
use Rattle.plan_docs.specs.declared.node.DynamicFilter.{DynamicFilter}
use Rattle.plan_docs.specs.Plans.{PlanForm}
use Rattle.plan_trees.specs.TreeForms.{TreeForm, pair_view}
use Rattle.plan_run_laws.specs.RunPlans.{RunPlan, tree_of_run}
use Rattle.driver_loop.specs.Drivers.{DriverState}
use Rattle.net_laws.specs.BuiltFilters.{AreOfPlan}
use Rattle.plan_layout.specs.declared.filters.PlacedFilter.{PlacedFilter}
use Rattle.plan_layout.specs.declared.pipe.Parallelism.{Parallelism}
use Rattle.plan_layout.specs.Filters.{IsPlaced, filters_of_scan, scan_filters}
use Rattle.plan_layout.specs.Layouts.{layout_of}
use Rattle.plan_layout.specs.Pipes.{PipeForm, table}
use Rattle.plan_layout.specs.Runs.{HasScan}
use Rattle.net_laws.specs.Reached.{AreReached}
use Rattle.net_laws.specs.Filtered.{FiltersReach}
use Rattle.net_laws.proofs.ListLemmas.{same_some}
use Rattle.net_laws.specs.ScanFilters.{IsCountOf, ScanFilter, up_to_id}
use Rattle.net_laws.specs.PlanCounts.{AreFiltersOfJoins, HasCounts, rows_passed, rows_scanned}
use Rattle.net_laws.specs.PlanFilters.{IsCountOfFilter, IsFilterForScan, IsFilterOfPlan}
use Rattle.net_laws.proofs.CountedFilterLemmas.{filter_of_plan, placed_of_plan}
use Rattle.net_laws.proofs.CountedPlanLemmas.{filter_at, ids_same}
use Rattle.net_laws.proofs.CountedReadLemmas.{filter_read}

module _ (tables : List (List Row)) (layout : List PipeForm) (run : RunPlan) (reached : AreReached layout run) (reach : FiltersReach layout run)
    (p : Parallelism) (plan : PlanForm) (laid : layout ≡ layout_of p plan) where
  abbrev tree : TreeForm
  tree = tree_of_run run

  of_plan : (f : PlacedFilter) (placed : IsPlaced layout f) → IsFilterOfPlan plan placed.build.join placed.build.on f.filter
  of_plan =
      subst (λ (l : List PipeForm). (f : PlacedFilter) (placed : IsPlaced l f) → IsFilterOfPlan plan placed.build.join placed.build.on f.filter)
      (sym laid) (placed_of_plan p plan)

  -- each is one of the plan's for the scan
  for_scan : (scan : ℕ) (fs : List PlacedFilter) (filters : List ScanFilter) → AreFiltersOfJoins tree tables layout fs filters
      → ((k : ℕ) (f : PlacedFilter) → slice_get fs k ≡ Some f → f.filter.scan ≡ scan) → All (IsFilterForScan plan tree tables scan) filters
  for_scan scan [] [] are for = All-nil (IsFilterForScan plan tree tables scan)
  for_scan scan [] (s ∷ filters) are for = absurd are
  for_scan scan (f ∷ fs) [] are for = absurd are
  for_scan scan (f ∷ fs) (s ∷ filters) are for =
      let placed = are.0.0 in
      let one : IsFilterForScan plan tree tables scan s = record {
        join = placed.build.join;
        on = placed.build.on;
        filter = f.filter;
        of = of_plan f placed;
        for = for 0 f refl;
        is = are.0.1;
      } in
      All-cons (IsFilterForScan plan tree tables scan) s filters one (for_scan scan fs filters are.1 (λ k g is. for (suc k) g is))

  count_of_filter : (drivers : List DriverState) (at : ℕ) (pipe : PipeForm) → slice_get layout at ≡ Some pipe → (scan : ℕ) → pipe.scan ≡ Some scan
      → AreOfPlan run layout plan scan (scan_filters layout pipe) → IsStrictlyIncreasing (map (λ (f : PlacedFilter). f.filter.id) (scan_filters layout pipe))
      → HasCounts tree tables layout drivers pipe
      → (place : ℕ) (f : PlacedFilter) → slice_get (scan_filters layout pipe) place ≡ Some f
      → IsCountOfFilter plan tree tables f.filter (rows_passed drivers pipe place)
  count_of_filter drivers at pipe is scan reads are rise has place f there =
      let fs = scan_filters layout pipe in
      let own = are.each place f there in
      let placed = own.0 in
      let mine : f.filter.scan ≡ scan = own.1 in
      let t = filter_read layout run reached placed.build.join (map pair_view placed.build.on) f.filter own.2 in
      let here : HasScan layout at (Some f.filter.scan) = record { pipe = pipe; is = is; scan = reads ∙ ap (λ (i : ℕ). Some i) (sym mine) } in
      let same_place = reach.apart.scans t.at at f.filter.scan t.reads here in
      let same : t.reads.pipe ≡ pipe = same_some (sym t.reads.is ∙ ap (slice_get layout) same_place ∙ is) in
      let source : pipe.source ≡ table t.place t.columns t.types = sym (ap (λ (q : PipeForm). q.source) same) ∙ t.source in
      record {
        join = placed.build.join;
        on = placed.build.on;
        own = of_plan f placed;
        table = t.place;
        columns = t.columns;
        scans = t.has;
        filters = has.filters;
        each = for_scan f.filter.scan fs has.filters has.are (λ k g found. (are.each k g found).1 ∙ sym mine);
        all = λ join on other of for.
            let found = filter_of_plan (λ (d : DynamicFilter). d.scan ≡ scan → (i : ℕ) × (g : PlacedFilter) × (slice_get fs i ≡ Some g) × (g.filter ≡ d))
            plan are.all join on other of (for ∙ mine) in
            let s = filter_at tree tables layout fs has.filters has.are found.0 found.1 found.2 in
            (s.0, (found.0, s.3, sym s.1), s.2 ∙ ap (λ (d : DynamicFilter). d.id) found.3);
        once = subst IsStrictlyIncreasing (ids_same tree tables layout fs has.filters has.are) rise;
        counts = subst (λ (rows : List Row). IsCountOf (up_to_id f.filter.id has.filters) rows (rows_passed drivers pipe place))
            (ap (rows_scanned tables) source) (has.counts place f there);
      }

  pub count_by_scan : (drivers : List DriverState) (at : ℕ) (pipe : PipeForm) → slice_get layout at ≡ Some pipe
      → ((scan : ℕ) → pipe.scan ≡ Some scan → AreOfPlan run layout plan scan (scan_filters layout pipe))
      → IsStrictlyIncreasing (map (λ (f : PlacedFilter). f.filter.id) (scan_filters layout pipe)) → HasCounts tree tables layout drivers pipe
      → (place : ℕ) (f : PlacedFilter) → slice_get (scan_filters layout pipe) place ≡ Some f
      → IsCountOfFilter plan tree tables f.filter (rows_passed drivers pipe place)
  count_by_scan drivers at pipe is are rise has place f there = by pipe.scan refl
    where
      by : (read : Option ℕ) → pipe.scan ≡ read → IsCountOfFilter plan tree tables f.filter (rows_passed drivers pipe place)
      by None none = let absent = subst (λ (o : Option ℕ). slice_get (filters_of_scan layout o) place ≡ Some f) none there in absurd cc
      by (Some scan) reads = count_of_filter drivers at pipe is scan reads (are scan reads) rise has place f there
