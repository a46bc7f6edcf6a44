use Rattle.plan_docs.specs.Plans.{plan_view}
use Rattle.plan_layout.proofs.FetchLemmas.{plan_fetched}
use Rattle.plan_layout.proofs.laws.sources_are_fetched.Goals as goal

pub returns : goal.returns
returns c = λ p. plan_fetched p (plan_view c.args.plan.now)
