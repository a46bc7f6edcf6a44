use Rattle.std.proofs.Common.{arith}
use Rattle.sql_values.proofs.HashLemmas.{hashing}
use Rattle.sql_values.proofs.hash.hash_text.Goals as goal

pub returns : goal.returns
returns c = grind (arith, hashing)
