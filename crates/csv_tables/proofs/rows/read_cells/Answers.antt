use Rattle.std.proofs.Common.{rules, ap}
use Rattle.std.proofs.lemmas.Result.{err_from_is_err_and}
use Rattle.csv.specs.Records.{fields_of}
use Rattle.sql_values.specs.Cells.{lent_value}
use Rattle.sql_values.specs.ColumnRows.{TypedRows}
use Rattle.sql_values.specs.Columns.{kinds}
use Rattle.csv_tables.proofs.BuildLemmas.{cell_fits, one_put}
use Rattle.csv_tables.proofs.RowLemmas.{cells_short, cells_step, goes_on, is_done, stops}
use Rattle.csv_tables.proofs.rows.read_cells.Goals as goal

pub returns-in_default-clause-cells : goal.returns-in_default-clause-cells
returns-in_default-clause-cells c =
    is_done _ c.loop-at.rows.begun _ c.loop-at.invariant.3 (cells_short c.args.row c.loop-at.at c.args.columns.now (fields_of c.args.line.now) c.loop-at.at (search rules))

pub returns-in_err-value-clause-cells : goal.returns-in_err-value-clause-cells
returns-in_err-value-clause-cells c =
    let p = err_from_is_err_and c.from_residual.result c.from_residual.ensures.1 in
    rw (p.1, p.2) (stops _ c.loop-at.rows.begun _ _ _ _ c.loop-at.invariant.3
    (cells_step c.args.row c.loop-at.at c.args.columns.now (fields_of c.args.line.now) c.loop-at.at c.index-columns-at.result c.in-Some.field.now c.loop-at-test.true (search rules))
    c.in_err-value.ensures)

pub put_cell-requires : goal.put_cell-requires
put_cell-requires c =
    cell_fits c.args.columns.now c.loop-at.rows.types c.loop-at.rows.begun c.args.row c.loop-at.at c.loop-at.at c.index-columns-at.result c.in-Some.field.now (lent_value c.in_ok-value.value)
    c.loop-at-test.true c.in_ok-value.ensures c.loop-at.invariant.0 c.loop-at.invariant.1

pub loop-at-preserved : goal.loop-at-preserved
loop-at-preserved c =
    let put = c.in_ok-put_cell.ensures in
    let v = lent_value c.in_ok-value.value in
    let kept = one_put (kinds c.args.columns.now) c.args.rows.now c.loop-at.rows c.put_cell.new.rows c.loop-at.at v c.loop-at.invariant.0 c.loop-at.invariant.1 c.loop-at.invariant.2 put in
    let cells = goes_on _ c.loop-at.rows.begun _ _ _ v c.loop-at.invariant.3
    (cells_step c.args.row c.loop-at.at c.args.columns.now (fields_of c.args.line.now) c.loop-at.at c.index-columns-at.result c.in-Some.field.now c.loop-at-test.true (search rules))
    c.in_ok-value.ensures in
    (kept.0, kept.1, kept.2, rw (ap (λ (r : TypedRows). r.begun) put) cells)
