use Rattle.std.proofs.Common.{rules}
use Rattle.plan_grammar.proofs.grammar.has_entries.Goals as goal

pub returns-in-Rows : goal.returns-in-Rows
returns-in-Rows c = search rules
