use Rattle.std.proofs.Common.{arith}
use Rattle.columns.proofs.PresentLemmas.{presents, reads}
use Rattle.columns.proofs.nullable.Nullable.get.Goals as goal

pub returns : goal.returns
returns c = grind (arith, presents, reads)
