use Rattle.std.proofs.Common.{rules}
use Rattle.decimals.proofs.MagnitudeLemmas.{signs}
use Rattle.decimals.proofs.digits.opposite.Goals as goal

pub returns-clause-value : goal.returns-clause-value
returns-clause-value c = search (rules, signs)
