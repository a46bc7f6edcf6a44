use Rattle.std.proofs.Common.{rules}
use Rattle.sql_functions.proofs.like.takes.Goals as goal

pub returns-then-p-c : goal.returns-then-p-c
returns-then-p-c c = search rules

pub returns-else-p-c : goal.returns-else-p-c
returns-else-p-c c = search rules
