use Rattle.std.proofs.Common.{ℕ, List, map, subst, sym}
use Rattle.std.specs.List.Sorted.{IsStrictlyIncreasing}
use Rattle.plan_docs.specs.Plans.{plan_view}
use Rattle.plan_trees.specs.TreeForms.{TreeForm}
use Rattle.tree_evaluator.specs.Fits.{FitsTables}
use Rattle.plan_run_laws.specs.RunPlans.{RunPlan}
use Rattle.plan_spreads.specs.Runs.{plan_run}
use Rattle.plan_layout.specs.declared.filters.PlacedFilter.{PlacedFilter}
use Rattle.plan_layout.specs.Filters.{scan_filters}
use Rattle.plan_layout.specs.Pipes.{PipeForm}
use Rattle.net_laws.specs.Reached.{AreReached}
use Rattle.net_laws.specs.Filtered.{FiltersReach}
use Rattle.net_laws.specs.Tidy.{IsTidy}
use Rattle.net_laws.specs.PlanCounts.{HasCounts}
use Rattle.net_laws.proofs.CountedPlanLemmas.{has_counts}
use Rattle.net_laws.proofs.plan_counts.plans_count.Goals as goal

pub returns : goal.returns
returns c = λ consistent p some f is net drivers laid of settled fits finished few at pipe there.
    let plan = plan_view c.args.plan.now in
    let run : RunPlan = plan_run p.tasks plan in
    let same = c.consistent_plans_are_placed.ensures.tree consistent p.tasks in
    let reached = subst (λ (layout : List PipeForm). AreReached layout run) (sym laid) (c.pipes_are_reached.ensures consistent p f is) in
    let tidy = subst IsTidy (sym laid) (c.layouts_are_tidy.ensures consistent p) in
    let reach = subst (λ (layout : List PipeForm). FiltersReach layout run) (sym laid) (c.plan_filters_reach.ensures consistent p) in
    let ids : List PipeForm → List ℕ = λ layout. map (λ (f : PlacedFilter). f.filter.id) (scan_filters layout pipe) in
    let rise = subst (λ (layout : List PipeForm). IsStrictlyIncreasing (ids layout)) (sym laid) (c.filter_ids_rise.ensures consistent p pipe) in
    let fits_run = subst (λ (tree : TreeForm). FitsTables tree net.tables) same fits in
    let placed = c.consistent_plans_are_placed.ensures.placed consistent p.tasks some in
    let f = c.rows_flowed.ensures net drivers settled in
    let flow = f.0 in
    let flowed = f.1 in
    subst (λ (tree : TreeForm). HasCounts tree net.tables net.layout drivers pipe) (sym same)
    (has_counts net drivers of settled flow flowed c.laws.ensures tidy (record {
      tables = λ at pipe is. c.tables_pass.ensures net drivers flow of settled flowed at pipe is;
      rows = λ at pipe is. c.rows_pass.ensures net drivers flow of settled flowed at pipe is;
      sides = λ at pipe is. c.unions_pass.ensures net drivers flow of settled flowed at pipe is;
      roots = λ at pipe is. c.fragments_pass.ensures net drivers flow of settled flowed at pipe is;
    }) finished run fits_run placed reached reach few at pipe there rise)
