use Rattle.plan_docs.specs.Plans.{plan_view}
use Rattle.net_laws.proofs.LayoutLaneLemmas.{plan_manned}
use Rattle.net_laws.proofs.pipes.pipes_have_drivers.Goals as goal

pub returns : goal.returns
returns c = λ p. plan_manned p (plan_view c.args.plan.now)
