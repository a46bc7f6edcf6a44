use Rattle.plan_docs.specs.Plans.{plan_view}
use Rattle.net_laws.proofs.GivenLemmas.{give_to_unions}
use Rattle.net_laws.proofs.pipes.unions_have_two_sides.Goals as goal

pub returns : goal.returns
returns c = λ p. give_to_unions p (plan_view c.args.plan.now)
