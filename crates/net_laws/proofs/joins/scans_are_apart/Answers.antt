use Rattle.plan_docs.specs.Plans.{plan_view}
use Rattle.net_laws.proofs.JoinPlanLemmas.{plan_scans}
use Rattle.net_laws.proofs.joins.scans_are_apart.Goals as goal

pub returns : goal.returns
returns c = plan_scans (plan_view c.args.plan.now)
