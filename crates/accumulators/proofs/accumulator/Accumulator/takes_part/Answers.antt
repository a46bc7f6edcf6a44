use Rattle.std.proofs.Common.{◌≡◌, ◌+◌, List, drop, ap, sym, ◌∙◌, arith}
use Rattle.sql_values.specs.Cells.{lent_value}
use Rattle.accumulators.specs.Groups.{Group}
use Rattle.accumulators.specs.Kept.{Kept, calls_of, kinds_of}
use Rattle.accumulators.specs.Limits.{are_all_columns, are_null}
use Rattle.accumulators.proofs.GroupLemmas.{few-told, many-told}
use Rattle.accumulators.proofs.accumulator.Accumulator.takes_part.Goals as goal

pub returns-then-rows-le-MOST_ROWS : goal.returns-then-rows-le-MOST_ROWS
returns-then-rows-le-MOST_ROWS g c =
    let row = g.C.Cells.values c.args.cells.now in
    let rows = c.row_count-rows.result in
    let group = c.args.self.now in
    let told : c.begin_each.result ≡ are_all_columns rows group.calls group.kinds (drop (c.args.first + 1) row)
    = c.begin_each.ensures ∙ ap (λ (ks : List Kept). are_all_columns rows (calls_of ks) (kinds_of ks) (drop (c.args.first + 1) row)) c.deref.ensures.value
    ∙ ap (λ (x : Group). are_all_columns rows x.calls x.kinds (drop (c.args.first + 1) row)) c.self.view_is in
    few-told group.calls group.kinds row c.args.first rows (lent_value c.cell-count.result) c.begin_each.result c.cell-count.ensures
    (sym c.is_row_count.ensures ∙ c.if-not-is_row_count.false) c.row_count-rows.ensures.number (omega (arith, c.if-rows-le-MOST_ROWS.true)) told

pub returns : goal.returns
returns g c =
    let row = g.C.Cells.values c.args.cells.now in
    let rows = c.row_count-rows.result in
    let group = c.args.self.now in
    let told : c.are_each_null.result ≡ are_null group.calls (drop (c.args.first + 1) row)
    = c.are_each_null.ensures ∙ ap (λ (ks : List Kept). are_null (calls_of ks) (drop (c.args.first + 1) row)) c.deref-2.ensures.value
    ∙ ap (λ (x : Group). are_null x.calls (drop (c.args.first + 1) row)) c.self.view_is in
    many-told group.calls group.kinds row c.args.first rows (lent_value c.cell-count.result) c.are_each_null.result c.cell-count.ensures
    (sym c.is_row_count.ensures ∙ c.if-not-is_row_count.false) c.row_count-rows.ensures.number (omega (arith, c.if-rows-le-MOST_ROWS.false)) told
