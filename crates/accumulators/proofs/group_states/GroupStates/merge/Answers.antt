use Rattle.std.proofs.Common.{◌≡◌, ◌+◌, ◌<◌, ◌≤◌, length, get_or, drop, refl, ap, sym, ◌∙◌, arith}
use Rattle.std.specs.Prelude.{IsTrue, nat_abs}
use Rattle.std.proofs.lemmas.Grind.{get_or_default_zero}
use Rattle.sql_values.specs.Order.{number_in}
use Rattle.relation_laws.specs.Aggregates.{most_group_rows}
use Rattle.relation_laws.specs.Partials.{rows_in}
use Rattle.accumulators.specs.GroupLists.{group_at}
use Rattle.accumulators.specs.Groups.{Group, group_kept, with_part}
use Rattle.accumulators.specs.Kept.{merged_each}
use Rattle.accumulators.specs.KeptColumns.{all_kept_at}
use Rattle.accumulators.specs.Limits.{is_partial}
use Rattle.accumulators.proofs.CellLemmas.{behind_first, first_cell}
use Rattle.accumulators.proofs.GroupLemmas.{can-merge, group-merged, part-overfull, view-merged}
use Rattle.accumulators.proofs.GroupListLemmas.{are-changed, are-overfull, calls-in, can-merge_at, changed-there, length-view, merged-there, same-but, view-at}
use Rattle.accumulators.proofs.group_states.GroupStates.merge.Goals as goal

pub index-requires : goal.index-requires
index-requires g c =
    let s = c.self.inside in
    let rows = s.rows.items in
    let cols = s.columns.items in
    let lt : c.args.place < length rows = omega (arith, c.requires.within, length-view rows cols c.args.self.now c.self.view_is) in
    omega (arith, lt, s.rows.ok.0)

pub index_mut-requires : goal.index_mut-requires
index_mut-requires g c =
    let s = c.self.inside in
    let rows = s.rows.items in
    let cols = s.columns.items in
    let lt : c.args.place < length rows = omega (arith, c.requires.within, length-view rows cols c.args.self.now c.self.view_is) in
    omega (arith, lt, s.rows.ok.0)

pub invariant_of-self : goal.invariant_of-self
invariant_of-self g c =
    let s = c.self.inside in
    let rows = s.rows.items in
    let cols = s.columns.items in
    let lt : c.args.place < length rows = omega (arith, c.requires.within, length-view rows cols c.args.self.now c.self.view_is) in
    let full : c.min-rows.result ≡ 9223372036854775808 = omega (arith, c.saturating_add.ensures, c.min-rows.ensures, c.if-rows-gt-MOST_ROWS.true) in
    are-overfull c.args.place cols cols refl s.none rows c.min-rows.result lt c.self.invariant full

pub returns-then-rows-gt-MOST_ROWS-clause-ok : goal.returns-then-rows-gt-MOST_ROWS-clause-ok
returns-then-rows-gt-MOST_ROWS-clause-ok g c =
    let s = c.self.inside in
    let rows = s.rows.items in
    let cols = s.columns.items in
    let lt : c.args.place < length rows = omega (arith, c.requires.within, length-view rows cols c.args.self.now c.self.view_is) in
    let told : c.index.result.now ≡ get_or rows c.args.place 0 = c.index.ensures ∙ get_or_default_zero rows c.args.place c.index.result.now lt in
    let a = get_or rows c.args.place 0 in
    let ks = all_kept_at c.args.place cols in
    let group = group_at c.args.self.now c.args.place in
    let view = view-at rows cols c.args.place c.args.self.now c.self.view_is lt in
    let is = c.self.invariant.each c.args.place lt in
    let row = g.C.Cells.values c.args.cells.now in
    let part = drop c.args.first row in
    let columns = drop (c.args.first + 1) row in
    let behind : columns ≡ drop 1 part = behind_first row c.args.first in
    let more : c.row_count-more.result ≡ rows_in part = c.row_count-more.ensures.number ∙ ap (λ v. nat_abs (number_in v)) (c.cell.ensures ∙ first_cell row c.args.first) in
    let full : c.min-rows.result ≡ 9223372036854775808 = omega (arith, c.saturating_add.ensures, c.min-rows.ensures, c.if-rows-gt-MOST_ROWS.true) in
    let many : most_group_rows < a + rows_in part = omega (arith, told, more, c.saturating_add.ensures, c.min-rows.ensures, c.if-rows-gt-MOST_ROWS.true) in
    changed-there c.args.place cols cols refl rows c.min-rows.result lt
    ∙ ap (λ n. group_kept n ks) full
    ∙ sym (part-overfull a ks ks part is.few many refl refl)
    ∙ ap (λ (x : Group). with_part x part) view

pub returns-then-rows-gt-MOST_ROWS-clause-same : goal.returns-then-rows-gt-MOST_ROWS-clause-same
returns-then-rows-gt-MOST_ROWS-clause-same g c =
    let s = c.self.inside in
    let rows = s.rows.items in
    let cols = s.columns.items in
    let lt : c.args.place < length rows = omega (arith, c.requires.within, length-view rows cols c.args.self.now c.self.view_is) in
    same-but c.args.place cols cols refl rows c.min-rows.result c.args.self.now c.self.view_is lt

pub merge_each_at-requires-clause-can : goal.merge_each_at-requires-clause-can
merge_each_at-requires-clause-can g c =
    let s = c.self.inside in
    let rows = s.rows.items in
    let cols = s.columns.items in
    let lt : c.args.place < length rows = omega (arith, c.requires.within, length-view rows cols c.args.self.now c.self.view_is) in
    let told : c.index.result.now ≡ get_or rows c.args.place 0 = c.index.ensures ∙ get_or_default_zero rows c.args.place c.index.result.now lt in
    let a = get_or rows c.args.place 0 in
    let ks = all_kept_at c.args.place cols in
    let group = group_at c.args.self.now c.args.place in
    let view = view-at rows cols c.args.place c.args.self.now c.self.view_is lt in
    let is = c.self.invariant.each c.args.place lt in
    let row = g.C.Cells.values c.args.cells.now in
    let part = drop c.args.first row in
    let columns = drop (c.args.first + 1) row in
    let behind : columns ≡ drop 1 part = behind_first row c.args.first in
    let more : c.row_count-more.result ≡ rows_in part = c.row_count-more.ensures.number ∙ ap (λ v. nat_abs (number_in v)) (c.cell.ensures ∙ first_cell row c.args.first) in
    let calls = calls-in rows cols c.args.place c.args.self.now c.self.view_is lt in
    let takes : IsTrue (is_partial group.calls group.kinds part) = (λ i. is_partial (calls.0 i) (calls.1 i) part) ∙ c.requires.takes in
    let few : a + rows_in part ≤ most_group_rows = omega (arith, told, more, c.saturating_add.ensures, c.min-rows.ensures, c.if-rows-gt-MOST_ROWS.false) in
    can-merge_at c.args.place (length rows) cols columns lt c.self.invariant.long (can-merge a ks ks group view is part columns behind few takes)

pub index_mut-requires-in-Ok : goal.index_mut-requires-in-Ok
index_mut-requires-in-Ok g c =
    let s = c.self.inside in
    let rows = s.rows.items in
    let cols = s.columns.items in
    let lt : c.args.place < length rows = omega (arith, c.requires.within, length-view rows cols c.args.self.now c.self.view_is) in
    omega (arith, lt, s.rows.ok.0)

pub invariant_of-self-in-Ok : goal.invariant_of-self-in-Ok
invariant_of-self-in-Ok g c =
    let s = c.self.inside in
    let rows = s.rows.items in
    let cols = s.columns.items in
    let lt : c.args.place < length rows = omega (arith, c.requires.within, length-view rows cols c.args.self.now c.self.view_is) in
    let told : c.index.result.now ≡ get_or rows c.args.place 0 = c.index.ensures ∙ get_or_default_zero rows c.args.place c.index.result.now lt in
    let a = get_or rows c.args.place 0 in
    let ks = all_kept_at c.args.place cols in
    let group = group_at c.args.self.now c.args.place in
    let view = view-at rows cols c.args.place c.args.self.now c.self.view_is lt in
    let is = c.self.invariant.each c.args.place lt in
    let row = g.C.Cells.values c.args.cells.now in
    let part = drop c.args.first row in
    let columns = drop (c.args.first + 1) row in
    let behind : columns ≡ drop 1 part = behind_first row c.args.first in
    let more : c.row_count-more.result ≡ rows_in part = c.row_count-more.ensures.number ∙ ap (λ v. nat_abs (number_in v)) (c.cell.ensures ∙ first_cell row c.args.first) in
    let calls = calls-in rows cols c.args.place c.args.self.now c.self.view_is lt in
    let takes : IsTrue (is_partial group.calls group.kinds part) = (λ i. is_partial (calls.0 i) (calls.1 i) part) ∙ c.requires.takes in
    let few : a + rows_in part ≤ most_group_rows = omega (arith, told, more, c.saturating_add.ensures, c.min-rows.ensures, c.if-rows-gt-MOST_ROWS.false) in
    let count : c.min-rows.result ≡ a + rows_in part = omega (arith, told, more, c.saturating_add.ensures, c.min-rows.ensures, c.if-rows-gt-MOST_ROWS.false) in
    let now = c.merge_each_at.new.columns.items in
    let others = c.merge_each_at.ensures.others in
    let then = all_kept_at c.args.place now in
    let ok : then ≡ merged_each ks columns = ap (all_kept_at c.args.place) c.in-Ok.ensures.ok ∙ merged-there c.args.place (length rows) cols columns lt c.self.invariant.long in
    are-changed c.args.place cols now others s.none rows c.min-rows.result lt c.self.invariant (group-merged a ks then group view is part columns c.min-rows.result behind count few takes ok)

pub index_mut-requires-in-Err : goal.index_mut-requires-in-Err
index_mut-requires-in-Err g c =
    let s = c.self.inside in
    let rows = s.rows.items in
    let cols = s.columns.items in
    let lt : c.args.place < length rows = omega (arith, c.requires.within, length-view rows cols c.args.self.now c.self.view_is) in
    omega (arith, lt, s.rows.ok.0)

pub invariant_of-self-in-Err : goal.invariant_of-self-in-Err
invariant_of-self-in-Err g c =
    let s = c.self.inside in
    let rows = s.rows.items in
    let cols = s.columns.items in
    let lt : c.args.place < length rows = omega (arith, c.requires.within, length-view rows cols c.args.self.now c.self.view_is) in
    let now = c.merge_each_at.new.columns.items in
    let others = c.merge_each_at.ensures.others in
    are-overfull c.args.place cols now others s.none rows 9223372036854775808 lt c.self.invariant refl

pub returns-in-Ok-clause-ok : goal.returns-in-Ok-clause-ok
returns-in-Ok-clause-ok g c =
    let s = c.self.inside in
    let rows = s.rows.items in
    let cols = s.columns.items in
    let lt : c.args.place < length rows = omega (arith, c.requires.within, length-view rows cols c.args.self.now c.self.view_is) in
    let told : c.index.result.now ≡ get_or rows c.args.place 0 = c.index.ensures ∙ get_or_default_zero rows c.args.place c.index.result.now lt in
    let a = get_or rows c.args.place 0 in
    let ks = all_kept_at c.args.place cols in
    let group = group_at c.args.self.now c.args.place in
    let view = view-at rows cols c.args.place c.args.self.now c.self.view_is lt in
    let is = c.self.invariant.each c.args.place lt in
    let row = g.C.Cells.values c.args.cells.now in
    let part = drop c.args.first row in
    let columns = drop (c.args.first + 1) row in
    let behind : columns ≡ drop 1 part = behind_first row c.args.first in
    let more : c.row_count-more.result ≡ rows_in part = c.row_count-more.ensures.number ∙ ap (λ v. nat_abs (number_in v)) (c.cell.ensures ∙ first_cell row c.args.first) in
    let few : a + rows_in part ≤ most_group_rows = omega (arith, told, more, c.saturating_add.ensures, c.min-rows.ensures, c.if-rows-gt-MOST_ROWS.false) in
    let count : c.min-rows.result ≡ a + rows_in part = omega (arith, told, more, c.saturating_add.ensures, c.min-rows.ensures, c.if-rows-gt-MOST_ROWS.false) in
    let now = c.merge_each_at.new.columns.items in
    let others = c.merge_each_at.ensures.others in
    let then = all_kept_at c.args.place now in
    let ok : then ≡ merged_each ks columns = ap (all_kept_at c.args.place) c.in-Ok.ensures.ok ∙ merged-there c.args.place (length rows) cols columns lt c.self.invariant.long in
    changed-there c.args.place cols now others rows c.min-rows.result lt ∙ view-merged a ks then group view is part columns c.min-rows.result behind count few ok

pub returns-in-Ok-clause-same : goal.returns-in-Ok-clause-same
returns-in-Ok-clause-same g c =
    let s = c.self.inside in
    let rows = s.rows.items in
    let cols = s.columns.items in
    let lt : c.args.place < length rows = omega (arith, c.requires.within, length-view rows cols c.args.self.now c.self.view_is) in
    let now = c.merge_each_at.new.columns.items in
    let others = c.merge_each_at.ensures.others in
    same-but c.args.place cols now others rows c.min-rows.result c.args.self.now c.self.view_is lt

pub returns-in-Err-clause-same : goal.returns-in-Err-clause-same
returns-in-Err-clause-same g c =
    let s = c.self.inside in
    let rows = s.rows.items in
    let cols = s.columns.items in
    let lt : c.args.place < length rows = omega (arith, c.requires.within, length-view rows cols c.args.self.now c.self.view_is) in
    let now = c.merge_each_at.new.columns.items in
    let others = c.merge_each_at.ensures.others in
    same-but c.args.place cols now others rows 9223372036854775808 c.args.self.now c.self.view_is lt
