use Rattle.std.proofs.Common.{◌≡◌, ◌+◌, ◌<◌, ◌≤◌, length, get_or, map, refl, ap, sym, ◌∙◌, arith}
use Rattle.std.specs.Prelude.{IsTrue}
use Rattle.std.proofs.lemmas.Grind.{get_or_default_zero}
use Rattle.relation_laws.specs.Aggregates.{most_group_rows}
use Rattle.accumulators.specs.GroupLists.{group_at}
use Rattle.accumulators.specs.Groups.{Group, with_row}
use Rattle.accumulators.specs.Kept.{added_row, calls_of, kinds_of}
use Rattle.accumulators.specs.KeptColumns.{all_kept_at}
use Rattle.accumulators.specs.Limits.{takes_row}
use Rattle.accumulators.proofs.GroupLemmas.{can-take, group-taken, row-overfull, view-added}
use Rattle.accumulators.proofs.GroupListLemmas.{added-there, are-changed, are-overfull, calls-at, can-take_at, changed-there, kinds-at, length-view, same-but, view-at}
use Rattle.accumulators.proofs.group_states.GroupStates.take.Goals as goal

pub index-rows-requires : goal.index-rows-requires
index-rows-requires g c =
    let s = c.self.inside in
    let rows = s.rows.items in
    let cols = s.columns.items in
    let lt : c.args.place < length rows = omega (arith, c.requires, length-view rows cols c.args.self.now c.self.view_is) in
    omega (arith, lt, s.rows.ok.0)

pub index_mut-requires : goal.index_mut-requires
index_mut-requires g c =
    let s = c.self.inside in
    let rows = s.rows.items in
    let cols = s.columns.items in
    let lt : c.args.place < length rows = omega (arith, c.requires, length-view rows cols c.args.self.now c.self.view_is) in
    omega (arith, lt, s.rows.ok.0)

pub returns-then-rows-ge-MOST_ROWS-clause-ok : goal.returns-then-rows-ge-MOST_ROWS-clause-ok
returns-then-rows-ge-MOST_ROWS-clause-ok g c =
    let s = c.self.inside in
    let rows = s.rows.items in
    let cols = s.columns.items in
    let lt : c.args.place < length rows = omega (arith, c.requires, length-view rows cols c.args.self.now c.self.view_is) in
    let told : c.index-rows.result.now ≡ get_or rows c.args.place 0 = c.index-rows.ensures ∙ get_or_default_zero rows c.args.place c.index-rows.result.now lt in
    let a = get_or rows c.args.place 0 in
    let ks = all_kept_at c.args.place cols in
    let group = group_at c.args.self.now c.args.place in
    let view = view-at rows cols c.args.place c.args.self.now c.self.view_is lt in
    let is = c.self.invariant.each c.args.place lt in
    let row = g.C.Cells.values c.args.cells.now in
    changed-there c.args.place cols cols refl rows 9223372036854775808 lt
    ∙ sym (row-overfull a ks ks row is.few (omega (arith, told, c.if-rows-ge-MOST_ROWS.true)) refl refl)
    ∙ ap (λ (x : Group). with_row x row) view

pub returns-then-rows-ge-MOST_ROWS-clause-same : goal.returns-then-rows-ge-MOST_ROWS-clause-same
returns-then-rows-ge-MOST_ROWS-clause-same g c =
    let s = c.self.inside in
    let rows = s.rows.items in
    let cols = s.columns.items in
    let lt : c.args.place < length rows = omega (arith, c.requires, length-view rows cols c.args.self.now c.self.view_is) in
    same-but c.args.place cols cols refl rows 9223372036854775808 c.args.self.now c.self.view_is lt

pub take_each_at-requires : goal.take_each_at-requires
take_each_at-requires g c =
    let s = c.self.inside in
    let rows = s.rows.items in
    let cols = s.columns.items in
    let lt : c.args.place < length rows = omega (arith, c.requires, length-view rows cols c.args.self.now c.self.view_is) in
    let told : c.index-rows.result.now ≡ get_or rows c.args.place 0 = c.index-rows.ensures ∙ get_or_default_zero rows c.args.place c.index-rows.result.now lt in
    let a = get_or rows c.args.place 0 in
    let ks = all_kept_at c.args.place cols in
    let group = group_at c.args.self.now c.args.place in
    let view = view-at rows cols c.args.place c.args.self.now c.self.view_is lt in
    let is = c.self.invariant.each c.args.place lt in
    let few : a + 1 ≤ most_group_rows = omega (arith, told, c.if-rows-ge-MOST_ROWS.false) in
    let row = g.C.Cells.values c.args.cells.now in
    can-take_at c.args.place (length rows) row cols lt c.self.invariant.long (can-take a ks ks group view is row few)

pub index_mut-requires-then-not-take_each_at : goal.index_mut-requires-then-not-take_each_at
index_mut-requires-then-not-take_each_at g c =
    let s = c.self.inside in
    let rows = s.rows.items in
    let cols = s.columns.items in
    let lt : c.args.place < length rows = omega (arith, c.requires, length-view rows cols c.args.self.now c.self.view_is) in
    omega (arith, lt, s.rows.ok.0)

pub invariant_of-self-then-not-take_each_at : goal.invariant_of-self-then-not-take_each_at
invariant_of-self-then-not-take_each_at g c =
    let s = c.self.inside in
    let rows = s.rows.items in
    let cols = s.columns.items in
    let lt : c.args.place < length rows = omega (arith, c.requires, length-view rows cols c.args.self.now c.self.view_is) in
    let row = g.C.Cells.values c.args.cells.now in
    let now = c.take_each_at.new.columns.items in
    let others = c.take_each_at.ensures.others in
    are-overfull c.args.place cols now others s.none rows 9223372036854775808 lt c.self.invariant refl

pub returns-then-not-take_each_at-clause-same : goal.returns-then-not-take_each_at-clause-same
returns-then-not-take_each_at-clause-same g c =
    let s = c.self.inside in
    let rows = s.rows.items in
    let cols = s.columns.items in
    let lt : c.args.place < length rows = omega (arith, c.requires, length-view rows cols c.args.self.now c.self.view_is) in
    let row = g.C.Cells.values c.args.cells.now in
    let now = c.take_each_at.new.columns.items in
    let others = c.take_each_at.ensures.others in
    same-but c.args.place cols now others rows 9223372036854775808 c.args.self.now c.self.view_is lt

pub index_mut-requires-2 : goal.index_mut-requires-2
index_mut-requires-2 g c =
    let s = c.self.inside in
    let rows = s.rows.items in
    let cols = s.columns.items in
    let lt : c.args.place < length rows = omega (arith, c.requires, length-view rows cols c.args.self.now c.self.view_is) in
    omega (arith, lt, s.rows.ok.0)

pub invariant_of-self-2 : goal.invariant_of-self-2
invariant_of-self-2 g c =
    let s = c.self.inside in
    let rows = s.rows.items in
    let cols = s.columns.items in
    let lt : c.args.place < length rows = omega (arith, c.requires, length-view rows cols c.args.self.now c.self.view_is) in
    let told : c.index-rows.result.now ≡ get_or rows c.args.place 0 = c.index-rows.ensures ∙ get_or_default_zero rows c.args.place c.index-rows.result.now lt in
    let a = get_or rows c.args.place 0 in
    let ks = all_kept_at c.args.place cols in
    let group = group_at c.args.self.now c.args.place in
    let view = view-at rows cols c.args.place c.args.self.now c.self.view_is lt in
    let is = c.self.invariant.each c.args.place lt in
    let few : a + 1 ≤ most_group_rows = omega (arith, told, c.if-rows-ge-MOST_ROWS.false) in
    let row = g.C.Cells.values c.args.cells.now in
    let now = c.take_each_at.new.columns.items in
    let others = c.take_each_at.ensures.others in
    let then = all_kept_at c.args.place now in
    let count : c.index-rows.result.now + 1 ≡ a + 1 = ap (λ n. n + 1) told in
    let ok : then ≡ map (added_row row) ks = ap (all_kept_at c.args.place) (c.take_each_at.ensures.value c.if-not-take_each_at.false) ∙ added-there c.args.place (length rows) row cols lt c.self.invariant.long in
    let fits : IsTrue (takes_row (calls_of ks) (kinds_of ks) row)
    = (λ i. takes_row (calls-at c.args.place cols i) (kinds-at c.args.place cols i) row) ∙ c.take_each_at.ensures.fits c.if-not-take_each_at.false in
    are-changed c.args.place cols now others s.none rows (c.index-rows.result.now + 1) lt c.self.invariant (group-taken a ks then group view is row (c.index-rows.result.now + 1) count few fits ok)

pub returns-clause-ok : goal.returns-clause-ok
returns-clause-ok g c =
    let s = c.self.inside in
    let rows = s.rows.items in
    let cols = s.columns.items in
    let lt : c.args.place < length rows = omega (arith, c.requires, length-view rows cols c.args.self.now c.self.view_is) in
    let told : c.index-rows.result.now ≡ get_or rows c.args.place 0 = c.index-rows.ensures ∙ get_or_default_zero rows c.args.place c.index-rows.result.now lt in
    let a = get_or rows c.args.place 0 in
    let ks = all_kept_at c.args.place cols in
    let group = group_at c.args.self.now c.args.place in
    let view = view-at rows cols c.args.place c.args.self.now c.self.view_is lt in
    let is = c.self.invariant.each c.args.place lt in
    let few : a + 1 ≤ most_group_rows = omega (arith, told, c.if-rows-ge-MOST_ROWS.false) in
    let row = g.C.Cells.values c.args.cells.now in
    let now = c.take_each_at.new.columns.items in
    let others = c.take_each_at.ensures.others in
    let then = all_kept_at c.args.place now in
    let count : c.index-rows.result.now + 1 ≡ a + 1 = ap (λ n. n + 1) told in
    let ok : then ≡ map (added_row row) ks = ap (all_kept_at c.args.place) (c.take_each_at.ensures.value c.if-not-take_each_at.false) ∙ added-there c.args.place (length rows) row cols lt c.self.invariant.long in
    changed-there c.args.place cols now others rows (c.index-rows.result.now + 1) lt ∙ view-added a ks then group view is row (c.index-rows.result.now + 1) count few ok

pub returns-clause-same : goal.returns-clause-same
returns-clause-same g c =
    let s = c.self.inside in
    let rows = s.rows.items in
    let cols = s.columns.items in
    let lt : c.args.place < length rows = omega (arith, c.requires, length-view rows cols c.args.self.now c.self.view_is) in
    let row = g.C.Cells.values c.args.cells.now in
    let now = c.take_each_at.new.columns.items in
    let others = c.take_each_at.ensures.others in
    same-but c.args.place cols now others rows (c.index-rows.result.now + 1) c.args.self.now c.self.view_is lt
