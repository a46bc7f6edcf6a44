use Rattle.std.proofs.Common.{◌≡◌, ◌++◌, take}
use Rattle.col_pages.specs.Pages.{rows_in}
use Rattle.csv_tables.specs.ResultTexts.{rows_text}
use Rattle.table_parts.proofs.texts.append_pages.Given as goal

-- the pages so far are appended
abbrev pub invariant-loop-page : goal.invariant-loop-page
invariant-loop-page l = l.to.items ≡ l.fn.to.items ++ rows_text l.types (rows_in (take l.page-index l.pages))
