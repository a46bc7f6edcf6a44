use Rattle.std.proofs.Common.{List}
use Rattle.plan_docs.specs.Plans.{plan_view}
use Rattle.plan_run_laws.specs.RunPlans.{RunPlan}
use Rattle.plan_spreads.specs.Runs.{plan_run}
use Rattle.plan_layout.specs.Layouts.{layout_of}
use Rattle.plan_layout.specs.Pipes.{PipeForm}
use Rattle.net_laws.proofs.CountedReadLemmas.{has_place}
use Rattle.net_laws.proofs.plan_counts.filters_have_places.Goals as goal

pub returns : goal.returns
returns c = λ consistent p f is join on filter of.
    let plan = plan_view c.args.plan.now in
    let layout : List PipeForm = layout_of p plan in
    let run : RunPlan = plan_run p.tasks plan in
    has_place layout run (c.pipes_are_reached.ensures consistent p f is) plan (c.filters_reach_in_runs.ensures consistent p.tasks)
    (λ pipe scan reads. c.scan_filters_reach.ensures consistent p p.tasks pipe scan reads) join on filter of
