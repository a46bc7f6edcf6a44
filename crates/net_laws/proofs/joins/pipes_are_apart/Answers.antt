use Rattle.plan_docs.specs.Plans.{plan_view}
use Rattle.net_laws.proofs.ApartLemmas.{plan_pipes_apart}
use Rattle.net_laws.proofs.joins.pipes_are_apart.Goals as goal

pub returns : goal.returns
returns c = plan_pipes_apart (plan_view c.args.plan.now)
