use Rattle.sql_values.specs.Cells.{lent_value}
use Rattle.accumulators.specs.declared.call_column.HeldColumn.TheVariants.{Avg, Sum}
use Rattle.accumulators.specs.KeptColumns.{CanTakeAt}
use Rattle.accumulators.proofs.HeldColumnLemmas.{at_held, average_taken_at, short_averages, short_sum, sum_taken_at}
use Rattle.accumulators.proofs.call_column.CallColumn.take.Goals as goal

pub add_number_at-requires-clause-room : goal.add_number_at-requires-clause-room
add_number_at-requires-clause-room g c =
    let held = c.self.inside.held in
    let is = Sum c.in-Sum.column c.in-Sum.kind c.in-Sum.sums in
    let row = g.C.Cells.values c.args.cells.now in
    sum_taken_at c.args.place c.in-Sum.column c.in-Sum.kind c.in-Sum.sums.items (short_sum held c.in-Sum.column c.in-Sum.kind c.in-Sum.sums c.in-Sum.is c.self.invariant)
    row (lent_value c.cell-in-Sum.result) c.cell-in-Sum.ensures
    (at_held (CanTakeAt c.args.place row) held is c.args.self.now c.self.view_is c.in-Sum.is c.requires)

pub add_counted_at-requires-clause-room : goal.add_counted_at-requires-clause-room
add_counted_at-requires-clause-room g c =
    let held = c.self.inside.held in
    let is = Avg c.in-Avg.column c.in-Avg.kind c.in-Avg.averages in
    let row = g.C.Cells.values c.args.cells.now in
    average_taken_at c.args.place c.in-Avg.column c.in-Avg.kind c.in-Avg.averages.items (short_averages held c.in-Avg.column c.in-Avg.kind c.in-Avg.averages c.in-Avg.is c.self.invariant)
    row (lent_value c.cell-in-Avg.result) c.cell-in-Avg.ensures
    (at_held (CanTakeAt c.args.place row) held is c.args.self.now c.self.view_is c.in-Avg.is c.requires)
