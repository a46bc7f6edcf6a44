use Rattle.sql_values.specs.Cells.{lent_value}
use Rattle.accumulators.specs.declared.call_state.Held.TheVariants.{Avg, Count, Sum}
use Rattle.accumulators.proofs.HeldLemmas.{average_taken, count_taken, short_at_held, short_average, sum_taken, taken_at_held}
use Rattle.accumulators.proofs.call_state.CallState.take.Goals as goal

pub count_cell-requires : goal.count_cell-requires
count_cell-requires g c =
    let is = Count c.in-Count.column c.in-Count.count in
    let row = g.C.Cells.values c.args.cells.now in
    count_taken c.in-Count.column c.in-Count.count row (lent_value c.cell.result) c.cell.ensures (taken_at_held c.self.inside.held is c.args.self.now row c.self.view_is c.in-Count.is c.requires)

pub add_number-requires-clause-room : goal.add_number-requires-clause-room
add_number-requires-clause-room g c =
    let is = Sum c.in-Sum.column c.in-Sum.kind c.in-Sum.sum in
    let row = g.C.Cells.values c.args.cells.now in
    sum_taken c.in-Sum.column c.in-Sum.kind c.in-Sum.sum row (lent_value c.cell-in-Sum.result) c.cell-in-Sum.ensures
    (short_at_held c.self.inside.held is c.in-Sum.is c.self.invariant.0)
    (taken_at_held c.self.inside.held is c.args.self.now row c.self.view_is c.in-Sum.is c.requires)

pub add_counted-requires-clause-room : goal.add_counted-requires-clause-room
add_counted-requires-clause-room g c =
    let is = Avg c.in-Avg.column c.in-Avg.kind c.in-Avg.sum c.in-Avg.count in
    let row = g.C.Cells.values c.args.cells.now in
    average_taken c.in-Avg.column c.in-Avg.kind c.in-Avg.sum c.in-Avg.count row (lent_value c.cell-in-Avg.result) c.cell-in-Avg.ensures
    (short_average c.self.inside.held c.in-Avg.column c.in-Avg.kind c.in-Avg.sum c.in-Avg.count c.in-Avg.is c.self.invariant.0)
    (taken_at_held c.self.inside.held is c.args.self.now row c.self.view_is c.in-Avg.is c.requires)
