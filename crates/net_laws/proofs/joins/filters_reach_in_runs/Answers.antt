use Rattle.plan_docs.specs.Plans.{plan_view}
use Rattle.net_laws.proofs.JoinFilterLemmas.{plan_filters}
use Rattle.net_laws.proofs.joins.filters_reach_in_runs.Goals as goal

pub returns : goal.returns
returns c = plan_filters (plan_view c.args.plan.now)
