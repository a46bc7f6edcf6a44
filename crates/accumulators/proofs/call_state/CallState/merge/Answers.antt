use Rattle.std.proofs.Common.{drop, refl, ◌∙◌}
use Rattle.accumulators.proofs.CellLemmas.{first_cell}
use Rattle.sql_values.specs.Cells.{cell, lent_value}
use Rattle.accumulators.specs.declared.call_state.Held.TheVariants.{Avg, Sum}
use Rattle.accumulators.proofs.HeldLemmas.{average_and_stored, columns_at_held, short_at_held, short_average, sum_and_stored}
use Rattle.accumulators.proofs.call_state.CallState.merge.Goals as goal

pub add_sum-requires-clause-room : goal.add_sum-requires-clause-room
add_sum-requires-clause-room g c =
    let row = g.C.Cells.values c.args.cells.now in
    let columns = drop c.args.place row in
    let is = Sum c.in-Sum.column c.in-Sum.kind c.in-Sum.sum in
    (sum_and_stored c.in-Sum.column c.in-Sum.kind c.in-Sum.sum columns (lent_value c.cell-first.result) (c.cell-first.ensures ∙ first_cell row c.args.place)
    (short_at_held c.self.inside.held is c.in-Sum.is c.self.invariant.0)
    (columns_at_held c.self.inside.held is c.args.self.now columns c.self.view_is c.in-Sum.is c.requires.can)).0

pub add_sum-requires-in-Avg-clause-room : goal.add_sum-requires-in-Avg-clause-room
add_sum-requires-in-Avg-clause-room g c =
    let row = g.C.Cells.values c.args.cells.now in
    let columns = drop c.args.place row in
    let is = Avg c.in-Avg.column c.in-Avg.kind c.in-Avg.sum c.in-Avg.count in
    (average_and_stored c.in-Avg.column c.in-Avg.kind c.in-Avg.sum c.in-Avg.count columns (lent_value c.cell-first.result) (cell columns 1) (c.cell-first.ensures ∙ first_cell row c.args.place) refl
    (short_average c.self.inside.held c.in-Avg.column c.in-Avg.kind c.in-Avg.sum c.in-Avg.count c.in-Avg.is c.self.invariant.0)
    (columns_at_held c.self.inside.held is c.args.self.now columns c.self.view_is c.in-Avg.is c.requires.can)).0
