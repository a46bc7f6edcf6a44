use Rattle.std.proofs.Common.{◌≡◌, length}
use Rattle.csv_tables.specs.PageColumns.{AreColumnsFrom}
use Rattle.csv_tables.proofs.page_texts.plain_columns.Given as goal

-- the columns so far
abbrev pub invariant-loop-column : goal.invariant-loop-column
invariant-loop-column l = AreColumnsFrom 0 l.page.rows l.columns.items × (l.column ≡ length l.columns.items)
