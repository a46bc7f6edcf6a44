use Rattle.std.proofs.Common.{◌≡◌, get_or, map, take, ap, sym, set, arith, ◌∙◌}
use Rattle.std.proofs.lemmas.List.{set-get_or}
use Rattle.sql_values.specs.Blocks.{TypedCells, with_cells}
use Rattle.column_moves.proofs.BehindLemmas.{cut_back, joined-more, joined-none}
use Rattle.column_moves.proofs.behind.append_each.Goals as goal

pub loop-place-init : goal.loop-place-init
loop-place-init c = sym (joined-none c.args.columns.now.items)

pub loop-place-preserved : goal.loop-place-preserved
loop-place-preserved c =
    ap (set c.loop-place.columns.items c.loop-place.place) c.in-Ok.ensures.ok
    ∙ joined-more c.args.columns.now.items c.args.others.now c.loop-place.columns.items c.loop-place.place c.index_mut.result.now c.index-others-place.result
    c.in-Ok.field-0 c.requires.kinds c.loop-place.invariant (omega arith) c.index_mut.ensures.value c.index-others-place.is c.in-Ok.ensures.same

pub returns-in-Err-clause-err : goal.returns-in-Err-clause-err
returns-in-Err-clause-err c =
    let cs = c.loop-place.columns.items in
    let at = c.loop-place.place in
    let other : c.append.new.self ≡ get_or cs at c.index_mut.result.now = c.in-Err.ensures.err ∙ c.index_mut.ensures.value in
    let as_it_was : set cs at c.append.new.self ≡ cs = ap (set cs at) other ∙ set-get_or cs at c.index_mut.result.now in
    c.truncate_each.ensures
    ∙ ap (map (λ (b : TypedCells). with_cells b (take c.args.len b.cells))) (as_it_was ∙ c.loop-place.invariant)
    ∙ cut_back c.args.len at c.args.columns.now.items c.args.others.now c.requires.level
