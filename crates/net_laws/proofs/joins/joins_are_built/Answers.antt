use Rattle.plan_docs.specs.Plans.{plan_view}
use Rattle.net_laws.proofs.BuiltLemmas.{plan_joins_built}
use Rattle.net_laws.proofs.joins.joins_are_built.Goals as goal

pub returns : goal.returns
returns c = λ p. plan_joins_built p (plan_view c.args.plan.now)
