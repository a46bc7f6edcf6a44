use Rattle.std.proofs.Common.{arith}
use Rattle.sql_functions.proofs.LikeLemmas.{first_row_is}
use Rattle.sql_functions.proofs.like.first_row.Goals as goal

pub returns : goal.returns
returns c = grind (arith, first_row_is)
