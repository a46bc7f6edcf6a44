use Rattle.plan_run_laws.proofs.ExtendLemmas.{runs_on}
use Rattle.plan_run_laws.proofs.laws.stopped_runs_go_on.Goals as goal

pub returns : goal.returns
returns c = λ n w plan notes took gave ended done stops opened. runs_on c.args.tables.now n w plan notes took gave ended done stops opened
