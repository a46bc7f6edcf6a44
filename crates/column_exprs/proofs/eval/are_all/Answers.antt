use Rattle.std.proofs.Common.{arith, ◌≡◌, get_or}
use Rattle.column_exprs.proofs.PlaceLemmas.{all_more}
use Rattle.column_exprs.proofs.eval.are_all.Goals as goal

pub loop-place-preserved : goal.loop-place-preserved
loop-place-preserved c =
    let here : get_or c.args.positions.now c.loop-place.place 0 ≡ c.loop-place.place = c.if-positions-place.false in
    (c.loop-place.invariant.0, all_more c.args.positions.now c.loop-place.place (omega (arith, c.loop-place-test.true, c.loop-place.invariant.0)) c.loop-place.invariant.1 here)
