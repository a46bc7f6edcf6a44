use Rattle.std.proofs.Common.{rules}
use Rattle.csv_tables.specs.Lines.{fields_of_line}
use Rattle.csv_tables.proofs.BuildLemmas.{row_added}
use Rattle.csv_tables.proofs.line_rows.read_line.Goals as goal

pub returns-in-Ok-true-clause-row : goal.returns-in-Ok-true-clause-row
returns-in-Ok-true-clause-row c =
    row_added c.args.columns.now c.args.limit c.args.row (fields_of_line c.args.line.now) c.args.rows.now c.put_fields.new.rows c.end_row.new.self c.end_row.result (search rules) (search rules)
    c.requires.types c.requires.begun c.in-Ok-true.ensures.rows c.in-Ok-true.ensures.cells c.end_row.ensures.full c.end_row.ensures.ok
