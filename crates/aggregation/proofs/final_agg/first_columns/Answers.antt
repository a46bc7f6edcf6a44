use Rattle.aggregation.proofs.FinalLemmas.{columns-more}
use Rattle.aggregation.proofs.final_agg.first_columns.Goals as goal

pub loop-column-preserved : goal.loop-column-preserved
loop-column-preserved c = columns-more c.loop-column.columns.items c.push.new.self.items c.loop-column.column c.loop-column.invariant c.in_ok-push.ensures.items
