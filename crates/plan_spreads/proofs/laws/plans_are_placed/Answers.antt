use Rattle.plan_docs.specs.Plans.{plan_view}
use Rattle.plan_spreads.proofs.PlanLemmas.{plan_placed}
use Rattle.plan_spreads.proofs.laws.plans_are_placed.Goals as goal

pub returns : goal.returns
returns c = plan_placed (plan_view c.args.plan.now)
