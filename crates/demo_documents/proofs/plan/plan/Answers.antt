use Rattle.demo_documents.specs.Plans.{plan_text}
use Rattle.demo_documents.proofs.plan.plan.Goals as goal

pub returns : goal.returns
unfolding plan_text
returns c = c.copy_of.ensures
