use Rattle.accumulators.specs.declared.call_state.Held.TheVariants.{Avg}
use Rattle.accumulators.proofs.HeldLemmas.{average_at, rows_at_held, short_average}
use Rattle.accumulators.proofs.call_state.CallState.outcome_of_few.Goals as goal

pub average_result-requires : goal.average_result-requires
average_result-requires c =
    let is = Avg c.in-Avg.column c.in-Avg.kind c.in-Avg.sum c.in-Avg.count in
    average_at c.args.rows c.in-Avg.column c.in-Avg.kind c.in-Avg.sum c.in-Avg.count
    (short_average c.self.inside.held c.in-Avg.column c.in-Avg.kind c.in-Avg.sum c.in-Avg.count c.in-Avg.is c.self.invariant.0) c.requires.few
    (rows_at_held c.self.inside.held is c.args.self.now c.args.rows c.self.view_is c.in-Avg.is c.requires.kept)
