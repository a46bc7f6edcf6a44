use Rattle.col_pages.specs.Pages.{rows_in}
use Rattle.csv_tables.specs.ResultTexts.{record_text, rows_text}
use Rattle.std.proofs.Common.{◌∙◌}
use Rattle.table_parts.proofs.PrintLemmas.{whole_printed}
use Rattle.table_parts.proofs.texts.text_of_parts.Goals as goal

pub returns : goal.returns
returns g c =
    whole_printed (record_text c.args.names.now) (rows_text c.args.types.now (rows_in c.args.pages.now)) c.in_ok-header.header c.in_ok-records.records c.chunks_of_both.result
    (c.in_ok-header.ensures ∙ c.in_ok-header_text.ensures) c.in_ok-records.ensures c.chunks_of_both.ensures
