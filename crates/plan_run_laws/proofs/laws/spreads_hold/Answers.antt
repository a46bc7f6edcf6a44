use Rattle.plan_run_laws.proofs.ComposeLemmas.{composed}
use Rattle.plan_run_laws.proofs.laws.spreads_hold.Goals as goal

pub returns : goal.returns
returns c = λ mode n plan spread lt fits placed out ran. composed mode c.args.tables.now lt fits placed out ran
