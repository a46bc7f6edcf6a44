use Rattle.pipe_laws.proofs.LaneLemmas.{halves_made}
use Rattle.pipe_laws.proofs.lanes.halves_make.Goals as goal

pub returns : goal.returns
returns g c = halves_made g.O.Operator c.laws.ensures
