use Rattle.std.proofs.Common.{arith}
use Rattle.column_exprs.proofs.MarkLemmas.{places_more}
use Rattle.column_exprs.proofs.lanes.places_of.Goals as goal

pub loop-place-preserved : goal.loop-place-preserved
loop-place-preserved c = record {
  room = omega (arith, c.loop-place.invariant.room, c.push_marked.ensures.len, c.push_marked.ensures.capacity);
  items =
      places_more c.args.out.now.items c.loop-place.out.items c.push_marked.new.out.items c.args.mask.now c.args.positions.now c.loop-place.place c.requires c.loop-place-test.true
      c.loop-place.invariant.items c.push_marked.ensures.items;
}
