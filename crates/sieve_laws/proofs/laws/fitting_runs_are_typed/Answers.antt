use Rattle.sieve_laws.proofs.TypedLemmas.{typed}
use Rattle.sieve_laws.proofs.laws.fitting_runs_are_typed.Goals as goal

pub returns : goal.returns
returns c = λ run fits. typed run c.args.tables.now fits
