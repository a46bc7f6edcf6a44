use Rattle.std.proofs.Common.{rules}
use Rattle.decimals.proofs.decimal.Decimal.checked.Goals as goal

pub invariant_of-result : goal.invariant_of-result
invariant_of-result c = search rules
