use Rattle.std.proofs.Common.{◌≡◌, List, subst, sym, Some}
use Rattle.std.specs.Prelude.{slice_get}
use Rattle.driver_loop.specs.Ends.{rows_handed}
use Rattle.plan_docs.specs.Plans.{plan_view}
use Rattle.plan_trees.specs.Allowed.{Gives, strict}
use Rattle.plan_trees.specs.TreeForms.{TreeForm}
use Rattle.tree_evaluator.specs.Fits.{FitsTables}
use Rattle.plan_run_laws.specs.RunPlans.{RunPlan}
use Rattle.plan_spreads.specs.Runs.{plan_run}
use Rattle.plan_layout.specs.Pipes.{PipeForm, driver_number}
use Rattle.net_laws.specs.Reached.{AreReached}
use Rattle.net_laws.specs.Filtered.{FiltersReach}
use Rattle.net_laws.specs.Tidy.{IsTidy}
use Rattle.net_laws.proofs.PlanLemmas.{root_is, root_lone}
use Rattle.net_laws.proofs.plans.plans_give.Goals as goal

pub returns : goal.returns
returns c = λ consistent p some f is net drivers laid of settled fits root lone finished d there.
    let plan = plan_view c.args.plan.now in
    let run : RunPlan = plan_run p.tasks plan in
    let same = c.consistent_plans_are_placed.ensures.tree consistent p.tasks in
    let reached = subst (λ (layout : List PipeForm). AreReached layout run) (sym laid) (c.pipes_are_reached.ensures consistent p f is) in
    let tidy = subst IsTidy (sym laid) (c.layouts_are_tidy.ensures consistent p) in
    let fits_run = subst (λ (tree : TreeForm). FitsTables tree net.tables) same fits in
    let reaches = subst (λ (layout : List PipeForm). FiltersReach layout run) (sym laid) (c.plan_filters_reach.ensures consistent p) in
    let here = subst (λ (pipe : PipeForm). slice_get drivers (driver_number pipe 0 0) ≡ Some d) (sym (root_is net.layout run reached root lone)) there in
    subst (λ (tree : TreeForm). Gives strict tree net.tables (rows_handed d.target)) (sym same)
    (c.nets_give.ensures net drivers of settled tidy run fits_run (c.consistent_plans_are_placed.ensures.placed consistent p.tasks some) reached.at reached.root
    (root_lone net.layout run reached root lone) reaches finished d here)
