use Rattle.plan_docs.specs.Plans.{plan_view}
use Rattle.plan_spreads.proofs.PlanLemmas.{roots_placed}
use Rattle.plan_spreads.proofs.laws.roots_are_placed.Goals as goal

pub returns : goal.returns
returns c = roots_placed (plan_view c.args.plan.now)
