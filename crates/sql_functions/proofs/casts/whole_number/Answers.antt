use Rattle.std.proofs.Common.{rules}
use Rattle.sql_functions.proofs.casts.whole_number.Goals as goal

pub returns-in-Ok : goal.returns-in-Ok
returns-in-Ok c = search rules
