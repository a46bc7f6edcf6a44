use Rattle.plan_docs.specs.Plans.{plan_view}
use Rattle.plan_link_laws.proofs.DocumentLemmas.{plan_meets, plan_read_once, plan_reads}
use Rattle.plan_link_laws.proofs.laws.halves_meet.Goals as goal

pub returns : goal.returns
returns c = record {
  meet = plan_meets (plan_view c.args.plan.now);
  read_on = plan_reads (plan_view c.args.plan.now);
  read_once = plan_read_once (plan_view c.args.plan.now);
}
