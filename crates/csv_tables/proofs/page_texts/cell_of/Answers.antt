use Rattle.std.proofs.Common.{arith}
use Rattle.sql_values.specs.Cells.{lent_value}
use Rattle.csv_tables.proofs.PageLemmas.{cell_in, cells_in}
use Rattle.csv_tables.proofs.page_texts.cell_of.Goals as goal

pub cell-requires : goal.cell-requires
cell-requires c =
    let lookup = c.in-Some.ensures.lookup in
    omega (arith, c.requires.place, cells_in c.args.page.now.rows 0 c.args.columns.now c.args.column c.in-Some.block.now c.requires.columns lookup.3.0 lookup.1)

pub returns-in-Some : goal.returns-in-Some
returns-in-Some c =
    let lookup = c.in-Some.ensures.lookup in
    cell_in c.args.page.now.rows 0 c.args.columns.now c.args.column c.args.column c.args.place c.in-Some.block.now (lent_value c.cell.result)
    c.requires.columns lookup.3.0 lookup.1 (omega arith) c.requires.place c.cell.ensures
