use Rattle.std.proofs.Common.{append_assoc}
use Rattle.col_pages.specs.Pages.{rows_in}
use Rattle.operator_core.proofs.HeldLemmas.{one_page_more}
use Rattle.task_executor.proofs.result.rows_of.Goals as goal

pub loop-page-preserved : goal.loop-page-preserved
loop-page-preserved c =
    rw (
      c.in_ok-push.ensures.items,
      one_page_more c.loop-page.pages.items c.in-Some.page,
      append_assoc (rows_in c.loop-page.pages.items) c.in-Some.page.rows c.take_first.new.self,
      ← c.in-Some.ensures.rows,
    )
    c.loop-page.invariant
