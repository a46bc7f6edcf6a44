use Rattle.std.proofs.Common.{rules}
use Rattle.decimals.proofs.exact.sum_digits.Goals as goal

pub returns : goal.returns
returns c = search rules
