use Rattle.std.proofs.Common.{◌≡◌, ◌≤◌, ◌+◌, drop, length}
use Rattle.csv_tables.specs.Lines.{fields_of_line}
use Rattle.csv_tables.proofs.lines.field_count.Given as goal

-- the fields before the last comma so far, and those behind it
abbrev pub invariant-loop-at : goal.invariant-loop-at
invariant-loop-at l = (l.count ≤ l.at + 1) × (l.count + length (fields_of_line (drop l.at l.line)) ≡ length (fields_of_line l.line) + 1)
