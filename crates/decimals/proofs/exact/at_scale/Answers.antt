use Rattle.std.proofs.Common.{rules, arith}
use Rattle.decimals.proofs.RangeLemmas.{rescaled_in_range}
use Rattle.decimals.proofs.exact.at_scale.Goals as goal

pub returns-clause-number : goal.returns-clause-number
returns-clause-number c = search rules

pub returns-clause-digits : goal.returns-clause-digits
returns-clause-digits c = grind (arith, rescaled_in_range)
