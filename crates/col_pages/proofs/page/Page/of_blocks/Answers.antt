use Rattle.sql_values.proofs.ColumnRowsLemmas.{length-rows_of}
use Rattle.col_pages.proofs.page.Page.of_blocks.Goals as goal

pub of_columns-requires-2 : goal.of_columns-requires-2
of_columns-requires-2 c = rw (c.of_columns.ensures, length-rows_of _ _ _ c.requires.level) c.requires.few
