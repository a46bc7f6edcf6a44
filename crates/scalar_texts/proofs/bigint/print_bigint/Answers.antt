use Rattle.std.proofs.Common.{rules, arith}
use Rattle.scalar_texts.proofs.AppendLemmas.{appending}
use Rattle.scalar_texts.proofs.bigint.print_bigint.Goals as goal

pub returns-clause-ok : goal.returns-clause-ok
returns-clause-ok c = search rules

pub returns-clause-err : goal.returns-clause-err
returns-clause-err c = grind (arith, appending)
