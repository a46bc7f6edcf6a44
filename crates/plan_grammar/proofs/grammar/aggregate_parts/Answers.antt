use Rattle.std.proofs.Common.{rules}
use Rattle.plan_grammar.proofs.grammar.aggregate_parts.Goals as goal

pub returns-in-Partial : goal.returns-in-Partial
returns-in-Partial c = search rules
