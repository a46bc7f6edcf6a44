use Rattle.plan_docs.specs.Plans.{plan_view}
use Rattle.net_laws.proofs.BuiltLemmas.{plan_builds_reach}
use Rattle.net_laws.proofs.joins.built_filters_reach.Goals as goal

pub returns : goal.returns
returns c = plan_builds_reach (plan_view c.args.plan.now)
