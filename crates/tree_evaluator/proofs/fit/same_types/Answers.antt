use Rattle.std.proofs.Common.{◌<◌, arith, length}
use Rattle.tree_evaluator.proofs.FitLemmas.{same_more}
use Rattle.tree_evaluator.proofs.fit.same_types.Goals as goal

pub loop-place-preserved : goal.loop-place-preserved
loop-place-preserved c =
    let within : c.loop-place.place < length c.args.others.now = omega arith in
    same_more c.args.types.now c.args.others.now c.loop-place.place _ c.loop-place.invariant c.loop-place-test.true within (c.same.ensures.0 c.if-not-same.false)
