use Rattle.plan_docs.specs.Plans.{plan_view}
use Rattle.net_laws.proofs.FetchOnceLemmas.{plan_fetched_once}
use Rattle.net_laws.proofs.pipes.sources_are_fetched_once.Goals as goal

pub returns : goal.returns
returns c = λ p. plan_fetched_once p (plan_view c.args.plan.now)
