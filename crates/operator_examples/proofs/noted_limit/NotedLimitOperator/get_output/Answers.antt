use Rattle.std.proofs.Common.{◌∙◌, sym}
use Rattle.operator_core.proofs.HeldLemmas.{not_empty}
use Rattle.operator_examples.proofs.noted_limit.NotedLimitOperator.get_output.Goals as goal

pub returns-in-Some-clause-went : goal.returns-in-Some-clause-went
returns-in-Some-clause-went c = λ _ _ T G went.
    absurd (not_empty c.in-Some.page.rows c.take_first.new.self c.in-Some.ensures.size.0 (sym c.in-Some.ensures.rows ∙ went.2))
