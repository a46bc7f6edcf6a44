use Rattle.std.proofs.Common.{rules}
use Rattle.csv_tables.proofs.LineLemmas.{nothing_there}
use Rattle.csv_tables.proofs.lines.next_line.Goals as goal

pub returns-then-is_empty-clause-records : goal.returns-then-is_empty-clause-records
returns-then-is_empty-clause-records c =
    nothing_there c.args.text.now c.split_at.result.1.now c.line_start.result c.line_start.ensures.same c.split_at.ensures.back (search rules)
