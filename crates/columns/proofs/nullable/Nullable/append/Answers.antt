use Rattle.std.proofs.Common.{arith}
use Rattle.columns.proofs.PresentLemmas.{presents}
use Rattle.columns.proofs.nullable.Nullable.append.Goals as goal

pub returns-clause-ok : goal.returns-clause-ok
returns-clause-ok c = grind (arith, presents)
