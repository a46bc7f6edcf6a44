use Rattle.table_parts.proofs.PrintLemmas.{pages_put}
use Rattle.table_parts.proofs.texts.append_pages.Goals as goal

pub loop-page-preserved : goal.loop-page-preserved
loop-page-preserved c =
    pages_put c.args.to.now.items c.loop-page.to.items c.append_page.new.to.items c.args.types.now c.args.pages.now c.loop-page.page-index c.page-item.result
    c.loop-page-test.true c.page-item.is c.loop-page.invariant c.in_ok-append_page.ensures
