use Rattle.std.proofs.Common.{rules}
use Rattle.scalar_texts.proofs.bigint.read_bigint.Goals as goal

pub returns-in_err-number-in-43 : goal.returns-in_err-number-in-43
returns-in_err-number-in-43 c = search rules

pub returns-in_ok-number-in-43 : goal.returns-in_ok-number-in-43
returns-in_ok-number-in-43 c = search rules
