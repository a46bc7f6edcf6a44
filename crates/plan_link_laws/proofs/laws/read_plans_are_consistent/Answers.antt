use Rattle.plan_docs.specs.Plans.{plan_view}
use Rattle.plan_link_laws.proofs.DocumentLemmas.{read_consistent}
use Rattle.plan_link_laws.proofs.laws.read_plans_are_consistent.Goals as goal

pub returns : goal.returns
returns c = read_consistent (plan_view c.args.plan.now)
