use Rattle.accumulators.proofs.NoneLemmas.{none-added}
use Rattle.accumulators.proofs.accumulator.Accumulator.none_adds_nothing.Goals as goal

pub returns : goal.returns
returns c = none-added c.self.inside.rows c.self.inside.states.items c.args.self.now c.self.view_is c.self.invariant
