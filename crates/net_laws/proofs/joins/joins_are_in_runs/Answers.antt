use Rattle.plan_docs.specs.Plans.{plan_view}
use Rattle.net_laws.proofs.JoinFilterLemmas.{plan_has_joins}
use Rattle.net_laws.proofs.joins.joins_are_in_runs.Goals as goal

pub returns : goal.returns
returns c = plan_has_joins (plan_view c.args.plan.now)
