use Rattle.std.proofs.Common.{◌≡◌, ◌∙◌, ◌<◌, ◌++◌, List, add-one, ap, arith, get_or, length, set, true, Bool}
use Rattle.std.specs.Prelude.{if◌then◌else◌}
use Rattle.sql_values.specs.Blocks.{TypedCells, with_cells}
use Rattle.tree_evaluator.specs.Pages.{joined}
use Rattle.tree_evaluator.proofs.ListLemmas.{join_more, same_count, same_kind}
use Rattle.tree_evaluator.proofs.lists.append_each.Goals as goal

within : (c : goal.In_ok-append) → c.loop-place.place < length c.args.more.items
within c = omega (arith, c.len-place-end.ensures, c.loop-place-test.true)

within_both : (c : goal.In_ok-append) → c.loop-place.place < length c.args.blocks.now.items
within_both c = omega (arith, within c, same_count c.args.blocks.now.items c.args.more.items c.requires)

block : (c : goal.In_ok-append) → c.index_mut-block.result.now ≡ get_or (joined c.loop-place.place c.args.blocks.now.items c.args.more.items) c.loop-place.place c.index_mut-block.result.now
block c = c.index_mut-block.ensures.value ∙ ap (λ (bs : List TypedCells). get_or bs c.loop-place.place c.index_mut-block.result.now) c.loop-place.invariant

pub loop-place-preserved : goal.loop-place-preserved
loop-place-preserved c =
    let kind = same_kind c.loop-place.place c.args.blocks.now.items c.args.more.items c.index_mut-block.result.now c.index.result.now
    (within_both c) (within c) (block c) c.index.ensures c.requires in
    let taken : c.in_ok-append.field-0 ≡ true = c.in_ok-append.ensures.same.1 kind in
    let next : c.append.new.self ≡ with_cells c.index_mut-block.result.now (c.index_mut-block.result.now.cells ++ c.index.result.now.cells) =
    c.in_ok-append.ensures.ok
    ∙ ap (λ (b : Bool). with_cells c.index_mut-block.result.now (if b then c.index_mut-block.result.now.cells ++ c.index.result.now.cells else c.index_mut-block.result.now.cells)) taken in
    rw add-one
    ((λ i. set (c.loop-place.invariant i) c.loop-place.place (next i))
    ∙ join_more c.loop-place.place c.args.blocks.now.items c.args.more.items c.index_mut-block.result.now c.index.result.now
    (within_both c) (within c) (block c) c.index.ensures)
