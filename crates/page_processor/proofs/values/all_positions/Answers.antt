use Rattle.page_processor.proofs.JudgedLemmas.{range_more}
use Rattle.page_processor.proofs.values.all_positions.Goals as goal

pub loop-position-preserved : goal.loop-position-preserved
loop-position-preserved c = range_more _ _ _ c.loop-position.invariant c.in_ok-push.ensures.items
