use Rattle.std.proofs.Common.{arith}
use Rattle.plan_run_laws.proofs.FailedLemmas.{failed}
use Rattle.plan_run_laws.proofs.laws.failures_compose.Goals as goal

pub returns : goal.returns
returns c = λ plan fits placed notes took ended node kind. failed c.args.tables.now node kind (omega arith) fits placed 1 notes took ended
