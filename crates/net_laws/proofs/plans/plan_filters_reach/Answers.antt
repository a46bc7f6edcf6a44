use Rattle.plan_docs.specs.Plans.{plan_view}
use Rattle.net_laws.proofs.ApartLemmas.{plan_pipes_apart}
use Rattle.net_laws.proofs.plans.plan_filters_reach.Goals as goal

pub returns : goal.returns
returns c = λ consistent p. record {
  scans = c.scans_are_apart.ensures consistent p.tasks;
  apart = plan_pipes_apart (plan_view c.args.plan.now) consistent p;
  reach = c.built_filters_reach.ensures consistent p p.tasks;
}
