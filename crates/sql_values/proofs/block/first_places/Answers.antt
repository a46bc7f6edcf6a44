use Rattle.sql_values.proofs.SharedLemmas.{range-more}
use Rattle.sql_values.proofs.block.first_places.Goals as goal

pub loop-place-preserved : goal.loop-place-preserved
loop-place-preserved c =
    range-more c.loop-place.places.items c.push.new.self.items c.loop-place.place c.loop-place.invariant c.in_ok-push.ensures.items
