use Rattle.std.proofs.Common.{◌≡◌, drop}
use Rattle.csv_tables.specs.Lines.{records_in}
use Rattle.csv_tables.proofs.lines.line_start.Given as goal

abbrev pub invariant-loop-at : goal.invariant-loop-at
invariant-loop-at l = records_in (drop l.at l.text) ≡ records_in l.text
