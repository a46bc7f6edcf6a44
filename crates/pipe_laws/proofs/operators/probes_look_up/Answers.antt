use Rattle.pipe_laws.proofs.ProbeLemmas.{looks_up_rows}
use Rattle.pipe_laws.proofs.operators.probes_look_up.Goals as goal

pub returns : goal.returns
returns g c = λ s noted id kind on left taken right probes. looks_up_rows g.O.Operator c.laws.ensures s noted id kind on left taken right probes
