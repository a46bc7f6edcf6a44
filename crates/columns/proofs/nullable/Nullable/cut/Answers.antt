use Rattle.std.proofs.Common.{arith}
use Rattle.columns.proofs.PresentLemmas.{presents}
use Rattle.columns.proofs.nullable.Nullable.cut.Goals as goal

pub returns : goal.returns
returns c = grind (arith, presents)
