use Rattle.accumulators.specs.declared.call_column.HeldColumn.TheVariants.{Avg}
use Rattle.accumulators.specs.KeptColumns.{IsKeptAt}
use Rattle.accumulators.proofs.HeldColumnLemmas.{at_held, average_there, short_averages}
use Rattle.accumulators.proofs.call_column.CallColumn.outcome_of_few.Goals as goal

pub result-requires : goal.result-requires
result-requires c =
    let held = c.self.inside.held in
    let is = Avg c.in-Avg.column c.in-Avg.kind c.in-Avg.averages in
    average_there c.args.place c.in-Avg.column c.in-Avg.kind c.in-Avg.averages.items (short_averages held c.in-Avg.column c.in-Avg.kind c.in-Avg.averages c.in-Avg.is c.self.invariant)
    c.args.rows c.index-in-Avg.result.now c.index-in-Avg.ensures
    (at_held (IsKeptAt c.args.place c.args.rows) held is c.args.self.now c.self.view_is c.in-Avg.is c.requires)
