use Rattle.std.proofs.Common.{[]}
use Rattle.std.specs.Prelude.{slice_index_or}
use Rattle.sql_values.specs.Cells.{lent_value}
use Rattle.csv_tables.proofs.TextLemmas.{cell_next}
use Rattle.csv_tables.proofs.page_texts.put_page_row.Goals as goal

pub loop-column-preserved : goal.loop-column-preserved
loop-column-preserved c =
    cell_next c.args.to.now.items c.loop-column.to.items c.put_separator.new.to.items c.put_cell.new.to.items c.args.types.now (slice_index_or c.args.page.now.rows c.args.place [])
    c.loop-column.column c.type_at.result (lent_value c.cell_of-cell.result) c.type_at.ensures c.loop-column-test.true c.cell_of-cell.ensures
    c.loop-column.invariant c.in_ok-put_separator.ensures c.in_ok-put_cell.ensures
