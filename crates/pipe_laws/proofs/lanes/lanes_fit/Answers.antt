use Rattle.pipe_laws.proofs.LaneLemmas.{lane_fits}
use Rattle.pipe_laws.proofs.lanes.lanes_fit.Goals as goal

pub returns : goal.returns
returns g c = lane_fits g.O.Operator c.laws.ensures
