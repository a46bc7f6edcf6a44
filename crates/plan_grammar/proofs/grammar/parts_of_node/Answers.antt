use Rattle.std.proofs.Common.{rules}
use Rattle.plan_grammar.proofs.grammar.parts_of_node.Goals as goal

pub returns-in-Values : goal.returns-in-Values
returns-in-Values c = search rules
