use Rattle.std.proofs.Common.{rules}
use Rattle.sql_functions.proofs.bigint.remainder.Goals as goal

pub returns : goal.returns
returns c = search rules
