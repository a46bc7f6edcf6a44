use Rattle.row_ops.proofs.OwnLemmas.{column-there}
use Rattle.row_ops.proofs.judge_page.are_all_columns.Goals as goal

pub loop-place-preserved : goal.loop-place-preserved
loop-place-preserved c =
    column-there c.args.columns.now c.loop-place.place c.index-columns-place.result c.loop-place-test.true c.index-columns-place.is
    (c.is_column.ensures c.if-not-is_column.false) c.loop-place.invariant
