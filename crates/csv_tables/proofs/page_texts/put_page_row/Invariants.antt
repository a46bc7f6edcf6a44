use Rattle.std.proofs.Common.{◌≡◌, ◌++◌, [], take}
use Rattle.std.specs.Prelude.{slice_index_or}
use Rattle.csv_tables.specs.ResultTexts.{body_text, fields_from}
use Rattle.csv_tables.proofs.page_texts.put_page_row.Given as goal

-- the fields so far are appended
abbrev pub invariant-loop-column : goal.invariant-loop-column
invariant-loop-column l = l.to.items ≡ l.fn.to.items ++ body_text (fields_from 0 (take l.column l.types) (slice_index_or l.page.rows l.place []))
