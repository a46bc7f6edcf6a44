use Rattle.std.proofs.Common.{◌∙◌, ap, arith}
use Rattle.csv.specs.Records.{fields_of}
use Rattle.csv_tables.specs.Tables.{rows_from, row_of_record}
use Rattle.csv_tables.proofs.BuildLemmas.{adds_begun, adds_goes, adds_types}
use Rattle.csv_tables.proofs.rows.read_rows.Goals as goal

pub loop-rows-preserved : goal.loop-rows-preserved
loop-rows-preserved c =
    let given = rw c.if-branch.true at c.in_ok-next.ensures in
    let row = row_of_record c.args.columns.now c.args.limit c.loop-rows.place (fields_of c.next.new.line) in
    let added = c.in_ok-read_row.ensures.row in
    let before = c.loop-rows.rows in (
      omega (arith, c.in_ok-read_row.ensures.within, c.loop-rows.invariant.0),
      adds_types row before c.read_row.new.rows added ∙ c.loop-rows.invariant.1,
      adds_begun row before c.read_row.new.rows added ∙ c.loop-rows.invariant.2,
      adds_goes _ _ _ row before c.read_row.new.rows c.loop-rows.invariant.3 (ap (rows_from c.args.columns.now c.args.limit c.loop-rows.place) given) added,
    )
