use Rattle.plan_docs.specs.Plans.{plan_view}
use Rattle.plan_link_laws.proofs.DocumentLemmas.{filters_reach}
use Rattle.plan_link_laws.proofs.laws.filters_reach_their_scans.Goals as goal

pub returns : goal.returns
returns c = filters_reach (plan_view c.args.plan.now)
