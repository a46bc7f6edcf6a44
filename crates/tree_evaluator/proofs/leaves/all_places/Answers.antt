use Rattle.page_processor.proofs.JudgedLemmas.{range_more}
use Rattle.tree_evaluator.proofs.leaves.all_places.Goals as goal

pub loop-place-preserved : goal.loop-place-preserved
loop-place-preserved c =
    range_more c.loop-place.places.items c.push.new.self.items c.loop-place.place c.loop-place.invariant c.in_ok-push.ensures.items
