use Rattle.std.proofs.Common.{◌≡◌, ◌∷◌, ◌∙◌, ap, sym, drop, set, length, arith, rules, add-one}
use Rattle.std.specs.Vec.Iter.{into_iter_items}
use Rattle.column_moves.proofs.BehindLemmas.{joined-more, joined-none, left-first, length-joined, length-kinds}
use Rattle.column_moves.proofs.behind.append_all.Goals as goal

pub loop-other-init : goal.loop-other-init
loop-other-init c = record { columns = sym (joined-none c.args.columns.now.items); left = search rules }

pub index_mut-requires : goal.index_mut-requires
index_mut-requires c =
    let cs = c.args.columns.now.items in
    let ds = c.args.others.items in
    let after = into_iter_items c.next.new.self in
    let step : into_iter_items c.loop-other.other-iterator ≡ c.in-Some.other ∷ after = search rules in
    let first = left-first ds c.loop-other.place c.in-Some.other after (c.loop-other.invariant.left ∙ step) in
    let size = ap length c.loop-other.invariant.columns ∙ length-joined cs _ ∙ length-kinds cs ds c.requires in
    omega (arith, first.0, size)

pub loop-other-preserved : goal.loop-other-preserved
loop-other-preserved c =
    let cs = c.args.columns.now.items in
    let ds = c.args.others.items in
    let now = c.loop-other.columns.items in
    let place = c.loop-other.place in
    let after = into_iter_items c.next.new.self in
    let step : into_iter_items c.loop-other.other-iterator ≡ c.in-Some.other ∷ after = search rules in
    let first = left-first ds place c.in-Some.other after (c.loop-other.invariant.left ∙ step) in record {
      columns = ap (set now place) c.in_ok-append_whole.ensures.ok
          ∙ joined-more cs ds now place c.index_mut.result.now c.in-Some.other c.in_ok-append_whole.field-0 c.requires c.loop-other.invariant.columns first.0
          c.index_mut.ensures.value first.1 c.in_ok-append_whole.ensures.same;
      left = ap (λ k. drop k ds) (add-one place) ∙ first.2;
    }
