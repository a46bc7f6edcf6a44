use Rattle.std.proofs.Common.{arith}
use Rattle.plan_run_laws.specs.Nets.{of_tasks}
use Rattle.plan_run_laws.proofs.ComposeLemmas.{composed}
use Rattle.plan_run_laws.proofs.WireLemmas.{wired}
use Rattle.plan_run_laws.proofs.laws.drivers_compose.Goals as goal

pub returns : goal.returns
returns c = λ mode plan fits placed builds took gave below went.
    composed mode c.args.tables.now (omega arith) fits placed (of_tasks 1 gave) (wired mode c.args.tables.now 1 1 plan builds took gave below went)
