use Rattle.plan_docs.specs.Plans.{plan_view}
use Rattle.plan_type_laws.proofs.PlanLemmas.{declared_types}
use Rattle.plan_type_laws.proofs.laws.declared_types_are_types.Goals as goal

pub returns : goal.returns
returns c = declared_types (plan_view c.args.plan.now) c.requires
