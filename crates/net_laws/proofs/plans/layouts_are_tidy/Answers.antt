use Rattle.plan_docs.specs.Plans.{plan_view}
use Rattle.net_laws.proofs.PlainLemmas.{plan_plain}
use Rattle.net_laws.proofs.ScanLemmas.{plan_scans}
use Rattle.net_laws.proofs.plans.layouts_are_tidy.Goals as goal

pub returns : goal.returns
returns c = λ consistent p. record {
  unions = c.unions_have_two_sides.ensures p;
  readers = c.readers_have_one_root.ensures consistent p;
  fetched = c.sources_are_fetched.ensures p;
  plain = λ at pipe is fetches. (plan_plain p (plan_view c.args.plan.now) at pipe is fetches).0;
  scans = plan_scans p (plan_view c.args.plan.now);
}
