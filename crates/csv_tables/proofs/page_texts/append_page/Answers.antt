use Rattle.std.proofs.Common.{rules}
use Rattle.csv_tables.proofs.TextLemmas.{rows_put}
use Rattle.csv_tables.proofs.page_texts.append_page.Goals as goal

pub loop-place-preserved : goal.loop-place-preserved
loop-place-preserved c =
    rows_put c.args.to.now.items c.loop-place.to.items c.put_page_row.new.to.items c.args.types.now c.args.page.now.rows c.loop-place.place
    (search rules) c.loop-place.invariant c.in_ok-put_page_row.ensures
