use Rattle.std.proofs.Common.{drop, ◌∙◌}
use Rattle.sql_values.specs.Cells.{lent_value}
use Rattle.accumulators.specs.declared.call_column.HeldColumn.TheVariants.{Avg, Sum}
use Rattle.accumulators.specs.KeptColumns.{CanMergeAt}
use Rattle.accumulators.proofs.CellLemmas.{first_cell, second_cell}
use Rattle.accumulators.proofs.HeldColumnLemmas.{at_held, average_merged_at, short_averages, short_sum, sum_merged_at}
use Rattle.accumulators.proofs.call_column.CallColumn.merge.Goals as goal

pub add_sum_at-requires-clause-room : goal.add_sum_at-requires-clause-room
add_sum_at-requires-clause-room g c =
    let held = c.self.inside.held in
    let is = Sum c.in-Sum.column c.in-Sum.kind c.in-Sum.sums in
    let row = g.C.Cells.values c.args.cells.now in
    let columns = drop c.args.first row in
    (sum_merged_at c.args.place c.in-Sum.column c.in-Sum.kind c.in-Sum.sums.items (short_sum held c.in-Sum.column c.in-Sum.kind c.in-Sum.sums c.in-Sum.is c.self.invariant)
    columns (lent_value c.cell-value.result) (c.cell-value.ensures ∙ first_cell row c.args.first)
    (at_held (CanMergeAt c.args.place columns) held is c.args.self.now c.self.view_is c.in-Sum.is c.requires.can)).0

pub add_sum_at-requires-clause-stored : goal.add_sum_at-requires-clause-stored
add_sum_at-requires-clause-stored g c =
    let held = c.self.inside.held in
    let is = Sum c.in-Sum.column c.in-Sum.kind c.in-Sum.sums in
    let row = g.C.Cells.values c.args.cells.now in
    let columns = drop c.args.first row in
    (sum_merged_at c.args.place c.in-Sum.column c.in-Sum.kind c.in-Sum.sums.items (short_sum held c.in-Sum.column c.in-Sum.kind c.in-Sum.sums c.in-Sum.is c.self.invariant)
    columns (lent_value c.cell-value.result) (c.cell-value.ensures ∙ first_cell row c.args.first)
    (at_held (CanMergeAt c.args.place columns) held is c.args.self.now c.self.view_is c.in-Sum.is c.requires.can)).1

pub add_average_at-requires-clause-room : goal.add_average_at-requires-clause-room
add_average_at-requires-clause-room g c =
    let held = c.self.inside.held in
    let is = Avg c.in-Avg.column c.in-Avg.kind c.in-Avg.averages in
    let row = g.C.Cells.values c.args.cells.now in
    let columns = drop c.args.first row in
    (average_merged_at c.args.place c.in-Avg.column c.in-Avg.kind c.in-Avg.averages.items (short_averages held c.in-Avg.column c.in-Avg.kind c.in-Avg.averages c.in-Avg.is c.self.invariant)
    columns (lent_value c.cell-value.result) (lent_value c.cell.result) (c.cell-value.ensures ∙ first_cell row c.args.first) (c.cell.ensures ∙ second_cell row c.args.first)
    (at_held (CanMergeAt c.args.place columns) held is c.args.self.now c.self.view_is c.in-Avg.is c.requires.can)).0

pub add_average_at-requires-clause-sum : goal.add_average_at-requires-clause-sum
add_average_at-requires-clause-sum g c =
    let held = c.self.inside.held in
    let is = Avg c.in-Avg.column c.in-Avg.kind c.in-Avg.averages in
    let row = g.C.Cells.values c.args.cells.now in
    let columns = drop c.args.first row in
    (average_merged_at c.args.place c.in-Avg.column c.in-Avg.kind c.in-Avg.averages.items (short_averages held c.in-Avg.column c.in-Avg.kind c.in-Avg.averages c.in-Avg.is c.self.invariant)
    columns (lent_value c.cell-value.result) (lent_value c.cell.result) (c.cell-value.ensures ∙ first_cell row c.args.first) (c.cell.ensures ∙ second_cell row c.args.first)
    (at_held (CanMergeAt c.args.place columns) held is c.args.self.now c.self.view_is c.in-Avg.is c.requires.can)).1

pub add_average_at-requires-clause-count : goal.add_average_at-requires-clause-count
add_average_at-requires-clause-count g c =
    let held = c.self.inside.held in
    let is = Avg c.in-Avg.column c.in-Avg.kind c.in-Avg.averages in
    let row = g.C.Cells.values c.args.cells.now in
    let columns = drop c.args.first row in
    (average_merged_at c.args.place c.in-Avg.column c.in-Avg.kind c.in-Avg.averages.items (short_averages held c.in-Avg.column c.in-Avg.kind c.in-Avg.averages c.in-Avg.is c.self.invariant)
    columns (lent_value c.cell-value.result) (lent_value c.cell.result) (c.cell-value.ensures ∙ first_cell row c.args.first) (c.cell.ensures ∙ second_cell row c.args.first)
    (at_held (CanMergeAt c.args.place columns) held is c.args.self.now c.self.view_is c.in-Avg.is c.requires.can)).2
