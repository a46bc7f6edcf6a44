use Rattle.std.proofs.Common.{rules}
use Rattle.sql_functions.proofs.casts.read_as.Goals as goal

pub returns-in-Err-Malformed : goal.returns-in-Err-Malformed
returns-in-Err-Malformed c = search rules
