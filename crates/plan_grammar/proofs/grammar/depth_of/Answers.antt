use Rattle.std.proofs.Common.{rules}
use Rattle.plan_grammar.proofs.grammar.depth_of.Goals as goal

pub returns-in-Expression-clause-level : goal.returns-in-Expression-clause-level
returns-in-Expression-clause-level c = search rules
