use Rattle.row_ops.proofs.OwnLemmas.{columns-more}
use Rattle.stage_meanings.proofs.row_stages.all_columns.Goals as goal

pub loop-place-preserved : goal.loop-place-preserved
loop-place-preserved c = columns-more _ _ _ c.loop-place.invariant c.in_ok-push.ensures.items
