use Rattle.std.proofs.Common.{◌≡◌, ℕ, List, map, Some, subst, sym}
use Rattle.std.specs.List.Sorted.{IsStrictlyIncreasing}
use Rattle.plan_docs.specs.Plans.{plan_view}
use Rattle.plan_trees.specs.TreeForms.{TreeForm}
use Rattle.plan_run_laws.specs.RunPlans.{RunPlan}
use Rattle.plan_spreads.specs.Runs.{plan_run}
use Rattle.plan_layout.specs.declared.filters.PlacedFilter.{PlacedFilter}
use Rattle.plan_layout.specs.Filters.{scan_filters}
use Rattle.plan_layout.specs.Pipes.{PipeForm}
use Rattle.net_laws.specs.Reached.{AreReached}
use Rattle.net_laws.specs.BuiltFilters.{AreOfPlan}
use Rattle.net_laws.specs.Filtered.{FiltersReach}
use Rattle.net_laws.specs.PlanCounts.{HasCounts, rows_passed}
use Rattle.net_laws.specs.PlanFilters.{IsCountOfFilter}
use Rattle.net_laws.proofs.CountedNumberLemmas.{count_by_scan}
use Rattle.net_laws.proofs.plan_counts.filters_are_counted.Goals as goal

pub returns : goal.returns
returns c = λ consistent p some f is net drivers laid of settled fits finished few at pipe there place placed found.
    let plan = plan_view c.args.plan.now in
    let run : RunPlan = plan_run p.tasks plan in
    let same = c.consistent_plans_are_placed.ensures.tree consistent p.tasks in
    let reached = subst (λ (layout : List PipeForm). AreReached layout run) (sym laid) (c.pipes_are_reached.ensures consistent p f is) in
    let reach = subst (λ (layout : List PipeForm). FiltersReach layout run) (sym laid) (c.plan_filters_reach.ensures consistent p) in
    let has = c.plans_count.ensures consistent p some f is net drivers laid of settled fits finished few at pipe there in
    let of_run = subst (λ (tree : TreeForm). HasCounts tree net.tables net.layout drivers pipe) same has in
    let are : (scan : ℕ) → pipe.scan ≡ Some scan → AreOfPlan run net.layout plan scan (scan_filters net.layout pipe) =
    λ scan reads.
    subst (λ (layout : List PipeForm). AreOfPlan run layout plan scan (scan_filters layout pipe)) (sym laid)
    (c.scan_filters_reach.ensures consistent p p.tasks pipe scan reads) in
    let ids : List PipeForm → List ℕ = λ layout. map (λ (f : PlacedFilter). f.filter.id) (scan_filters layout pipe) in
    let rise = subst (λ (layout : List PipeForm). IsStrictlyIncreasing (ids layout)) (sym laid) (c.filter_ids_rise.ensures consistent p pipe) in
    subst (λ (tree : TreeForm). IsCountOfFilter plan tree net.tables placed.filter (rows_passed drivers pipe place)) (sym same)
    (count_by_scan net.tables net.layout run reached reach p plan laid drivers at pipe there are rise of_run place placed found)
