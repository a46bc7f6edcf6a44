use Rattle.std.proofs.Common.{◌<◌, ◌^◌, arith}
use Rattle.decimals.proofs.MagnitudeLemmas.{power_positive}
use Rattle.accumulators.proofs.limits.greatest.Goals as goal

pub overflow_sub-result : goal.overflow_sub-result
overflow_sub-result c = let some : 0 < 10 ^ c.in-Decimal.p = power_positive c.in-Decimal.p in omega arith
