use Rattle.std.proofs.Common.{◌≡◌, take}
use Rattle.csv_tables.proofs.table.copy_columns.Given as goal

-- what was copied so far is the beginning of the columns
abbrev pub invariant-loop-column : goal.invariant-loop-column
invariant-loop-column l = l.copy.items ≡ take l.column-index l.columns
