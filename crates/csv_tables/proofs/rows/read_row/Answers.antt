use Rattle.std.proofs.Common.{rules}
use Rattle.csv.specs.Records.{fields_of}
use Rattle.csv_tables.proofs.BuildLemmas.{row_added}
use Rattle.csv_tables.proofs.rows.read_row.Goals as goal

pub returns-clause-row : goal.returns-clause-row
returns-clause-row c =
    row_added c.args.columns.now c.args.limit c.args.row (fields_of c.args.line.now) c.args.rows.now c.read_cells.new.rows c.end_row.new.self c.end_row.result (search rules) (search rules)
    c.requires.types c.requires.begun c.in_ok-read_cells.ensures.rows c.in_ok-read_cells.ensures.cells c.end_row.ensures.full c.end_row.ensures.ok
