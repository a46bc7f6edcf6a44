use Rattle.std.proofs.Common.{rules}
use Rattle.decimals.proofs.exact.minus.Goals as goal

pub returns-in_err-checked_sub : goal.returns-in_err-checked_sub
returns-in_err-checked_sub c = search rules

pub returns : goal.returns
returns c = search rules
