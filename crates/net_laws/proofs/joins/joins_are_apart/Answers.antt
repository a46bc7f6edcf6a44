use Rattle.plan_docs.specs.Plans.{plan_view}
use Rattle.net_laws.proofs.JoinPlanLemmas.{plan_joins}
use Rattle.net_laws.proofs.joins.joins_are_apart.Goals as goal

pub returns : goal.returns
returns c = plan_joins (plan_view c.args.plan.now)
