use Rattle.plan_docs.specs.Plans.{plan_view}
use Rattle.plan_run_laws.specs.RunPlans.{RunPlan}
use Rattle.plan_spreads.specs.Runs.{plan_run}
use Rattle.net_laws.proofs.LayoutLemmas.{plan_fits}
use Rattle.net_laws.proofs.layouts.layouts_fit.Goals as goal

pub returns : goal.returns
returns c = λ consistent p f is tables own fit types typed.
    let plan = plan_view c.args.plan.now in
    let run : RunPlan = plan_run p.tasks plan in
    let fits = c.consistent_plans_fit.ensures.run consistent tables own fit p.tasks in
    plan_fits p plan run tables (c.pipes_are_reached.ensures consistent p f is) fits.0 fits.1 types typed
