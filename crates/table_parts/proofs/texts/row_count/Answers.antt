use Rattle.std.proofs.Common.{◌-◌, ◌^◌}
use Rattle.table_parts.proofs.PrintLemmas.{rows_counted}
use Rattle.table_parts.proofs.texts.row_count.Goals as goal

pub loop-page-preserved : goal.loop-page-preserved
loop-page-preserved c =
    rows_counted c.args.pages.now c.loop-page.page-index c.page-item.result (2 ^ 64 - 1) c.loop-page.count c.len.result c.saturating_add-count.result
    c.loop-page-test.true c.page-item.is c.loop-page.invariant c.len.ensures.len c.saturating_add-count.ensures
