use Rattle.pipe_laws.proofs.LaneLemmas.{halves_open}
use Rattle.pipe_laws.proofs.lanes.halves_go_on.Goals as goal

pub returns : goal.returns
returns g c = halves_open g.O.Operator c.laws.ensures
