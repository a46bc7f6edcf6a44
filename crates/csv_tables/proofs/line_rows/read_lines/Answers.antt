use Rattle.std.proofs.Common.{◌∙◌, ap, arith}
use Rattle.csv_tables.specs.Lines.{fields_of_line}
use Rattle.csv_tables.specs.Tables.{rows_from, row_of_record}
use Rattle.csv_tables.proofs.BuildLemmas.{adds_begun, adds_goes, adds_types}
use Rattle.csv_tables.proofs.line_rows.read_lines.Goals as goal

pub loop-line-preserved : goal.loop-line-preserved
loop-line-preserved c =
    let row = row_of_record c.args.columns.now c.args.limit c.loop-line.place (fields_of_line c.in-Some.line.now) in
    let added = c.in_ok-read_line.ensures.row in
    let before = c.loop-line.rows in (
      omega (arith, c.in_ok-read_line.ensures.within, c.loop-line.invariant.0),
      adds_types row before c.read_line.new.rows added ∙ c.loop-line.invariant.1,
      adds_begun row before c.read_line.new.rows added ∙ c.loop-line.invariant.2,
      adds_goes _ _ _ row before c.read_line.new.rows c.loop-line.invariant.3 (ap (rows_from c.args.columns.now c.args.limit c.loop-line.place) c.in-Some.ensures.records) added,
      c.in-Some.ensures.plain,
    )
