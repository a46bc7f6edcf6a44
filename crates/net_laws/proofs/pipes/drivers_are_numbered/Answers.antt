use Rattle.plan_docs.specs.Plans.{plan_view}
use Rattle.net_laws.proofs.LayoutNumberLemmas.{plan_drivers}
use Rattle.net_laws.proofs.pipes.drivers_are_numbered.Goals as goal

pub returns : goal.returns
returns c = λ p. plan_drivers p (plan_view c.args.plan.now)
