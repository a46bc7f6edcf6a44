use Rattle.std.proofs.Common.{List, subst, sym}
use Rattle.plan_docs.specs.Plans.{plan_view}
use Rattle.plan_trees.specs.Stopped.{MayFail}
use Rattle.plan_trees.specs.TreeForms.{TreeForm}
use Rattle.tree_evaluator.specs.Fits.{FitsTables}
use Rattle.plan_run_laws.specs.RunPlans.{RunPlan}
use Rattle.plan_spreads.specs.Runs.{plan_run}
use Rattle.plan_layout.specs.Pipes.{PipeForm}
use Rattle.net_laws.specs.Reached.{AreReached}
use Rattle.net_laws.specs.Filtered.{FiltersReach}
use Rattle.net_laws.specs.Tidy.{IsTidy}
use Rattle.net_laws.proofs.PlanLemmas.{root_lone}
use Rattle.net_laws.proofs.plans.plans_without_filters_fail.Goals as goal

pub returns : goal.returns
returns c = λ consistent p some f is net drivers laid of settled fits root lone at pipe is_there plain task lane in_tasks in_lanes d there node kind failed.
    let plan = plan_view c.args.plan.now in
    let run : RunPlan = plan_run p.tasks plan in
    let same = c.consistent_plans_are_placed.ensures.tree consistent p.tasks in
    let reached = subst (λ (layout : List PipeForm). AreReached layout run) (sym laid) (c.pipes_are_reached.ensures consistent p f is) in
    let tidy = subst IsTidy (sym laid) (c.layouts_are_tidy.ensures consistent p) in
    let reaches = subst (λ (layout : List PipeForm). FiltersReach layout run) (sym laid) (c.plan_filters_reach.ensures consistent p) in
    let fits_run = subst (λ (tree : TreeForm). FitsTables tree net.tables) same fits in
    subst (λ (tree : TreeForm). MayFail tree net.tables node kind) (sym same)
    (c.nets_without_filters_fail.ensures net drivers of settled tidy run fits_run (c.consistent_plans_are_placed.ensures.placed consistent p.tasks some) reached
    (root_lone net.layout run reached root lone) reaches at pipe is_there plain task lane in_tasks in_lanes d there node kind failed)
