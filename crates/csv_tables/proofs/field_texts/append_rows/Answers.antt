use Rattle.std.proofs.Common.{rules}
use Rattle.csv_tables.proofs.TextLemmas.{rows_put}
use Rattle.csv_tables.proofs.field_texts.append_rows.Goals as goal

pub loop-place-preserved : goal.loop-place-preserved
loop-place-preserved c =
    rows_put c.args.to.now.items c.loop-place.to.items c.put_row.new.to.items c.args.types.now c.args.rows.now c.loop-place.place
    (search rules) c.loop-place.invariant c.in_ok-put_row.ensures
