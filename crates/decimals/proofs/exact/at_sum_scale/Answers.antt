use Rattle.std.proofs.Common.{rules}
use Rattle.decimals.proofs.exact.at_sum_scale.Goals as goal

pub returns : goal.returns
returns c = search rules
