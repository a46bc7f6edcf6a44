use Rattle.plan_docs.specs.Plans.{plan_view}
use Rattle.net_laws.proofs.LayoutReadLemmas.{plan_reached}
use Rattle.net_laws.proofs.pipes.pipes_are_reached.Goals as goal

pub returns : goal.returns
returns c = plan_reached (plan_view c.args.plan.now)
