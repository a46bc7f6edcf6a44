use Rattle.operator_examples.specs.NoteLaws.{wanted-learns}
use Rattle.operator_examples.proofs.while_wanted.WhileWantedOperator.blocked.Goals as goal

pub returns-clause-learns_gives : goal.returns-clause-learns_gives
returns-clause-learns_gives g c = λ _ _ _ T G went X B coming gives. wanted-learns _ c.args.self.now.held T G X B went gives
