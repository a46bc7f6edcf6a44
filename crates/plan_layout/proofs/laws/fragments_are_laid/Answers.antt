use Rattle.plan_docs.specs.Plans.{plan_view}
use Rattle.plan_layout.proofs.LayoutLemmas.{plan_laid}
use Rattle.plan_layout.proofs.laws.fragments_are_laid.Goals as goal

pub returns : goal.returns
returns c = λ p number f is. plan_laid p (plan_view c.args.plan.now) number f is
