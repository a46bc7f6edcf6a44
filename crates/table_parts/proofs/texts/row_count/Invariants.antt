use Rattle.std.proofs.Common.{◌≡◌, ◌-◌, ◌^◌, length, min, take}
use Rattle.col_pages.specs.Pages.{rows_in}
use Rattle.table_parts.proofs.texts.row_count.Given as goal

-- the rows of the pages so far
abbrev pub invariant-loop-page : goal.invariant-loop-page
invariant-loop-page l = l.count ≡ min (length (rows_in (take l.page-index l.pages))) (2 ^ 64 - 1)
