use Rattle.std.proofs.Common.{◌≡◌, ◌++◌, take}
use Rattle.csv_tables.specs.ResultTexts.{rows_text}
use Rattle.csv_tables.proofs.field_texts.append_rows.Given as goal

-- the rows so far are appended
abbrev pub invariant-loop-place : goal.invariant-loop-place
invariant-loop-place l = l.to.items ≡ l.fn.to.items ++ rows_text l.types (take l.place l.rows)
