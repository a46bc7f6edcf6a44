use Rattle.std.proofs.Common.{arith}
use Rattle.plan_run_laws.proofs.ComposeLemmas.{composed}
use Rattle.plan_run_laws.proofs.laws.tasks_compose.Goals as goal

pub returns : goal.returns
returns c = λ mode plan fits placed out ran. composed mode c.args.tables.now (omega arith) fits placed out ran
