use Rattle.sql_values.specs.Cells.{lent_value}
use Rattle.accumulators.specs.declared.call_state.Held.TheVariants.{Avg, Sum}
use Rattle.accumulators.proofs.HeldLemmas.{average_and_cell, cell_at_held, short_at_held, short_average, sum_and_cell}
use Rattle.accumulators.proofs.call_state.CallState.add.Goals as goal

pub add_cell-requires : goal.add_cell-requires
add_cell-requires c =
    let is = Sum c.in-Sum.column c.in-Sum.kind c.in-Sum.sum in
    sum_and_cell c.in-Sum.column c.in-Sum.kind c.in-Sum.sum (lent_value c.args.cell)
    (short_at_held c.self.inside.held is c.in-Sum.is c.self.invariant.0)
    (cell_at_held c.self.inside.held is c.args.self.now (lent_value c.args.cell) c.self.view_is c.in-Sum.is c.requires.can)

pub add_cell-requires-in-Avg : goal.add_cell-requires-in-Avg
add_cell-requires-in-Avg c =
    let is = Avg c.in-Avg.column c.in-Avg.kind c.in-Avg.sum c.in-Avg.count in
    (average_and_cell c.in-Avg.column c.in-Avg.kind c.in-Avg.sum c.in-Avg.count (lent_value c.args.cell)
    (short_average c.self.inside.held c.in-Avg.column c.in-Avg.kind c.in-Avg.sum c.in-Avg.count c.in-Avg.is c.self.invariant.0)
    (cell_at_held c.self.inside.held is c.args.self.now (lent_value c.args.cell) c.self.view_is c.in-Avg.is c.requires.can)).0
