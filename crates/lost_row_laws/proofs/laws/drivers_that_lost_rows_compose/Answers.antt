use Rattle.std.proofs.Common.{[], arith}
use Rattle.plan_run_laws.specs.Nets.{of_tasks}
use Rattle.plan_run_laws.proofs.ComposeLemmas.{composed}
use Rattle.lost_row_laws.proofs.RestoreLemmas.{put_back}
use Rattle.lost_row_laws.proofs.WireLemmas.{wired}
use Rattle.lost_row_laws.proofs.laws.drivers_that_lost_rows_compose.Goals as goal

pub returns : goal.returns
returns c = λ mode plan typed fits placed builds took gave below went.
    composed mode c.args.tables.now (omega arith) fits placed (of_tasks 1 gave)
    (put_back mode c.args.tables.now 1 plan typed (of_tasks 1 gave) (wired mode c.args.tables.now [] 1 1 plan builds took gave below went))
