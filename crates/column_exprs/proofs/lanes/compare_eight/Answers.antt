use Rattle.std.proofs.Common.{◌≡◌, ap, ◌∙◌, length, map, w64}
use lib.Lanes.{chunk}
use mir.Val.{of_z, to_z}
use Rattle.column_exprs.specs.Lanes.{lane, numbers, truths}
use Rattle.column_exprs.proofs.MarkLemmas.{eight_marked, kept, kept_fits, kept_lanes, numbers_chunk, numbers_lanes, numbers_length}
use Rattle.column_exprs.proofs.lanes.compare_eight.Goals as goal

pub lanes-requires : goal.lanes-requires
lanes-requires c = numbers_lanes c.args.b (length c.args.a.now) c.args.at c.requires.right c.requires.left

pub held-held-requires-clause-right : goal.held-held-requires-clause-right
held-held-requires-clause-right c = kept_fits c.lanes.result c.lanes.ensures.fits

pub returns : goal.returns
returns c =
    let op = c.args.op in
    let at = c.args.at in
    let xs = c.args.a.now in
    let ys = numbers c.args.b (length xs) in
    let ts = truths op (chunk at 8 xs) (chunk at 8 ys) in
    let left = kept c.lanes_at.result c.lanes_at.ensures.fits ∙ c.lanes_at.ensures.lanes in
    let right = kept c.lanes.result c.lanes.ensures.fits ∙ c.lanes.ensures.lanes ∙ numbers_chunk c.args.b (length xs) at c.requires.right c.requires.left in
    let held : c.held-held.result ≡ map lane ts = c.held-held.ensures ∙ (λ i. map lane (truths op (left i) (right i))) in
    eight_marked op xs ys (numbers_length c.args.b (length xs) c.requires.right) at c.args.out.now c.marks.result c.requires.left c.requires.before
    (c.marks.ensures ts (ap (λ hs. map (to_z w64) (map (of_z w64) hs)) held ∙ kept_lanes ts))
