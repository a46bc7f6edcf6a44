use Rattle.std.proofs.Common.{rules, arith, ap, drop, length, Bor, List, ℕ}
use Rattle.std.specs.Prelude.{option_map}
use Rattle.std.proofs.lemmas.Bool.{false≢true}
use Rattle.std.proofs.lemmas.Result.{err_from_is_err_and}
use Rattle.sql_values.specs.Cells.{lent_value}
use Rattle.sql_values.specs.ColumnRows.{TypedRows}
use Rattle.sql_values.specs.Columns.{kinds}
use Rattle.csv_tables.proofs.BuildLemmas.{cell_fits, one_put}
use Rattle.csv_tables.proofs.LineRowLemmas.{cells_none, is_wider, line_step}
use Rattle.csv_tables.proofs.RowLemmas.{goes_on, is_done, stops}
use Rattle.csv_tables.proofs.line_rows.put_fields.Goals as goal

pub returns-in_default-clause-cells : goal.returns-in_default-clause-cells
returns-in_default-clause-cells c =
    is_done _ c.loop-at.rows.begun _ c.loop-at.invariant.3 (cells_none c.args.row c.loop-at.at (drop c.loop-at.at c.args.columns.now) c.loop-at.left (search rules))

pub returns-in_err-value-clause-cells : goal.returns-in_err-value-clause-cells
returns-in_err-value-clause-cells c =
    let p = err_from_is_err_and c.from_residual.result c.from_residual.ensures.1 in
    let sofar = rw c.in-Some.is at c.loop-at.invariant.3 in
    rw (p.1, p.2) (stops _ c.loop-at.rows.begun _ _ _ _ sofar
    (line_step c.args.row c.loop-at.at c.args.columns.now c.loop-at.at c.index-columns-at.result c.in-Some.rest.now c.first_field.result.0.now (option_map (λ (rest : Bor (List ℕ)). rest.now) c.first_field.result.1) c.loop-at-test.true c.first_field.ensures)
    c.in_err-value.ensures)

pub put_cell-requires : goal.put_cell-requires
put_cell-requires c =
    cell_fits c.args.columns.now c.loop-at.rows.types c.loop-at.rows.begun c.args.row c.loop-at.at c.loop-at.at c.index-columns-at.result c.first_field.result.0.now (lent_value c.in_ok-value.value)
    c.loop-at-test.true c.in_ok-value.ensures c.loop-at.invariant.0 c.loop-at.invariant.1

pub loop-at-preserved : goal.loop-at-preserved
loop-at-preserved c =
    let put = c.in_ok-put_cell.ensures in
    let v = lent_value c.in_ok-value.value in
    let kept = one_put (kinds c.args.columns.now) c.args.rows.now c.loop-at.rows c.put_cell.new.rows c.loop-at.at v c.loop-at.invariant.0 c.loop-at.invariant.1 c.loop-at.invariant.2 put in
    let sofar = rw c.in-Some.is at c.loop-at.invariant.3 in
    let count = rw c.in-Some.is at c.loop-at.invariant.4 in
    let here = ap length c.first_field.ensures in
    let cells = goes_on _ c.loop-at.rows.begun _ _ _ v sofar
    (line_step c.args.row c.loop-at.at c.args.columns.now c.loop-at.at c.index-columns-at.result c.in-Some.rest.now c.first_field.result.0.now (option_map (λ (rest : Bor (List ℕ)). rest.now) c.first_field.result.1) c.loop-at-test.true c.first_field.ensures)
    c.in_ok-value.ensures in
    (kept.0, kept.1, kept.2, rw (ap (λ (r : TypedRows). r.begun) put) cells, omega (arith, count, here))

pub returns-in-Some-left-clause-whole : goal.returns-in-Some-left-clause-whole
returns-in-Some-left-clause-whole c =
    let count = rw c.in-Some-left.is at c.loop-at.invariant.4 in
    (λ no. absurd (false≢true no), λ same. absurd (is_wider _ c.loop-at.at (length c.args.columns.now) c.in-Some-left.field-0.now count c.loop-at-test.false same))
