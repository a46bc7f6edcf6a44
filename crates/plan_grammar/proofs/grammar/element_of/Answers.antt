use Rattle.std.proofs.Common.{rules}
use Rattle.plan_grammar.proofs.grammar.element_of.Goals as goal

pub returns-in-Fragments : goal.returns-in-Fragments
returns-in-Fragments c = search rules
