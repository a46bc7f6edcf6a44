use Rattle.std.proofs.Common.{arith}
use Rattle.scalar_texts.proofs.DecimalLemmas.{reading}
use Rattle.scalar_texts.proofs.decimal.with_fraction.Goals as goal

pub returns-clause-value : goal.returns-clause-value
returns-clause-value c = grind (arith, reading)
