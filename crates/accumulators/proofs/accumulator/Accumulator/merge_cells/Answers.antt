use Rattle.std.proofs.Common.{◌≡◌, ◌+◌, ◌≤◌, drop, ap, ◌∙◌, arith}
use Rattle.std.specs.Prelude.{nat_abs}
use Rattle.sql_values.specs.Order.{number_in}
use Rattle.relation_laws.specs.Aggregates.{most_group_rows}
use Rattle.relation_laws.specs.Partials.{rows_in}
use Rattle.accumulators.specs.Groups.{Group}
use Rattle.accumulators.proofs.CellLemmas.{behind_first, first_cell}
use Rattle.accumulators.proofs.GroupLemmas.{can-merge, group-merged, merge-stays, view-merged}
use Rattle.accumulators.proofs.accumulator.Accumulator.merge_cells.Goals as goal

pub merge_each-requires-clause-can : goal.merge_each-requires-clause-can
merge_each-requires-clause-can g c =
    let s = c.self.inside in
    let part = drop c.args.first (g.C.Cells.values c.args.cells.now) in
    let columns = drop (c.args.first + 1) (g.C.Cells.values c.args.cells.now) in
    let behind : columns ≡ drop 1 part = behind_first (g.C.Cells.values c.args.cells.now) c.args.first in
    let more : c.row_count-more.result ≡ rows_in part = c.row_count-more.ensures.number ∙ ap (λ v. nat_abs (number_in v)) (c.cell.ensures ∙ first_cell (g.C.Cells.values c.args.cells.now) c.args.first) in
    let few : s.rows + rows_in part ≤ most_group_rows = omega (arith, more, c.saturating_add.ensures, c.min-rows.ensures, c.if-rows-gt-MOST_ROWS.false) in
    can-merge s.rows s.states.items s.states.items c.args.self.now c.self.view_is c.self.invariant part columns behind few c.requires.takes

pub invariant_of-self-2 : goal.invariant_of-self-2
invariant_of-self-2 g c =
    let s = c.self.inside in
    let part = drop c.args.first (g.C.Cells.values c.args.cells.now) in
    let columns = drop (c.args.first + 1) (g.C.Cells.values c.args.cells.now) in
    let behind : columns ≡ drop 1 part = behind_first (g.C.Cells.values c.args.cells.now) c.args.first in
    let more : c.row_count-more.result ≡ rows_in part = c.row_count-more.ensures.number ∙ ap (λ v. nat_abs (number_in v)) (c.cell.ensures ∙ first_cell (g.C.Cells.values c.args.cells.now) c.args.first) in
    let few : s.rows + rows_in part ≤ most_group_rows = omega (arith, more, c.saturating_add.ensures, c.min-rows.ensures, c.if-rows-gt-MOST_ROWS.false) in
    let rows : c.min-rows.result ≡ s.rows + rows_in part = omega (arith, more, c.saturating_add.ensures, c.min-rows.ensures, c.if-rows-gt-MOST_ROWS.false) in
    group-merged s.rows s.states.items c.merge_each.new.states.items c.args.self.now c.self.view_is c.self.invariant part columns
    c.min-rows.result behind rows few c.requires.takes c.merge_each.ensures

pub returns-clause-ok : goal.returns-clause-ok
returns-clause-ok g c =
    let s = c.self.inside in
    let part = drop c.args.first (g.C.Cells.values c.args.cells.now) in
    let columns = drop (c.args.first + 1) (g.C.Cells.values c.args.cells.now) in
    let behind : columns ≡ drop 1 part = behind_first (g.C.Cells.values c.args.cells.now) c.args.first in
    let more : c.row_count-more.result ≡ rows_in part = c.row_count-more.ensures.number ∙ ap (λ v. nat_abs (number_in v)) (c.cell.ensures ∙ first_cell (g.C.Cells.values c.args.cells.now) c.args.first) in
    let few : s.rows + rows_in part ≤ most_group_rows = omega (arith, more, c.saturating_add.ensures, c.min-rows.ensures, c.if-rows-gt-MOST_ROWS.false) in
    let rows : c.min-rows.result ≡ s.rows + rows_in part = omega (arith, more, c.saturating_add.ensures, c.min-rows.ensures, c.if-rows-gt-MOST_ROWS.false) in
    view-merged s.rows s.states.items c.merge_each.new.states.items c.args.self.now c.self.view_is c.self.invariant part columns
    c.min-rows.result behind rows few c.merge_each.ensures

pub returns-clause-same : goal.returns-clause-same
returns-clause-same g c =
    let s = c.self.inside in
    let part = drop c.args.first (g.C.Cells.values c.args.cells.now) in
    let columns = drop (c.args.first + 1) (g.C.Cells.values c.args.cells.now) in
    let behind : columns ≡ drop 1 part = behind_first (g.C.Cells.values c.args.cells.now) c.args.first in
    let stays = merge-stays s.states.items c.merge_each.new.states.items columns c.merge_each.ensures in
    (stays.0 ∙ ap (λ (x : Group). x.calls) c.self.view_is, stays.1 ∙ ap (λ (x : Group). x.kinds) c.self.view_is)
