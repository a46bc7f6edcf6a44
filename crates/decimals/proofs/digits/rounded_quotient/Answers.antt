use Rattle.std.proofs.Common.{rules}
use Rattle.decimals.proofs.digits.rounded_quotient.Goals as goal

pub returns-else-d-n-clause-value : goal.returns-else-d-n-clause-value
returns-else-d-n-clause-value c = search rules
