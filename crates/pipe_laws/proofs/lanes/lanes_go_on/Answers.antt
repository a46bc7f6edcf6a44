use Rattle.pipe_laws.proofs.LaneLemmas.{lanes_open}
use Rattle.pipe_laws.proofs.lanes.lanes_go_on.Goals as goal

pub returns : goal.returns
returns g c = lanes_open g.O.Operator c.laws.ensures
