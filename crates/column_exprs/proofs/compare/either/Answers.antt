use Rattle.std.proofs.Common.{◌∙◌, ◌∷◌, ◌++◌, [], ap, arith}
use Rattle.column_exprs.proofs.CompareLemmas.{either_more}
use Rattle.column_exprs.proofs.compare.either.Goals as goal

pub loop-place-preserved : goal.loop-place-preserved
loop-place-preserved c = record {
  room = omega (arith, c.loop-place.invariant.room, c.push_reserved.ensures.len, c.push_reserved.ensures.capacity);
  items =
      c.push_reserved.ensures.items ∙ ap (λ b. c.loop-place.marks.items ++ b ∷ []) c.is_either.ensures
      ∙ either_more c.loop-place.marks.items c.args.a.now c.args.b.now c.loop-place.place c.requires c.loop-place-test.true c.loop-place.invariant.items;
}
