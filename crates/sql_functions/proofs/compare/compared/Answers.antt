use Rattle.std.proofs.Common.{rules}
use Rattle.sql_functions.proofs.compare.compared.Goals as goal

pub returns-then-is_null : goal.returns-then-is_null
returns-then-is_null c = search rules
