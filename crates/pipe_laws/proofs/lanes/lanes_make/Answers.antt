use Rattle.pipe_laws.proofs.LaneLemmas.{lanes_made}
use Rattle.pipe_laws.proofs.lanes.lanes_make.Goals as goal

pub returns : goal.returns
returns g c = lanes_made g.O.Operator c.laws.ensures
