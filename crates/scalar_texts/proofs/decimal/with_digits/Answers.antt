use Rattle.std.proofs.Common.{rules}
use Rattle.scalar_texts.proofs.decimal.with_digits.Goals as goal

pub returns-then-unsigned_abs-power_of_ten : goal.returns-then-unsigned_abs-power_of_ten
returns-then-unsigned_abs-power_of_ten c = search rules
