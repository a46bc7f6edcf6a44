use Rattle.accumulators.proofs.GroupLemmas.{view-fits}
use Rattle.accumulators.proofs.accumulator.Accumulator.part_fits.Goals as goal

pub returns : goal.returns
returns c = view-fits c.self.inside.rows c.self.inside.states.items c.self.inside.states.items c.args.self.now c.self.view_is c.self.invariant
