use Rattle.std.proofs.Common.{arith}
use Rattle.lost_row_laws.proofs.FailedLemmas.{failed}
use Rattle.lost_row_laws.proofs.laws.failures_with_lost_rows_compose.Goals as goal

pub returns : goal.returns
returns c = λ plan typed fits placed notes took ended node kind. failed c.args.tables.now node kind (omega arith) typed fits placed 1 notes took ended
