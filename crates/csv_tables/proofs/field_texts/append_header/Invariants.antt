use Rattle.std.proofs.Common.{◌≡◌, ◌++◌, take}
use Rattle.csv_tables.specs.ResultTexts.{body_text}
use Rattle.csv_tables.proofs.field_texts.append_header.Given as goal

-- the names so far are appended
abbrev pub invariant-loop-place : goal.invariant-loop-place
invariant-loop-place l = l.to.items ≡ l.fn.to.items ++ body_text (take l.place l.names)
