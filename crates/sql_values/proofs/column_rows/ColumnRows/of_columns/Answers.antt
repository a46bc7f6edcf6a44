use Rattle.std.proofs.Common.{◌∙◌}
use Rattle.sql_values.proofs.ColumnRowsLemmas.{first-common, whole-seen}
use Rattle.sql_values.proofs.column_rows.ColumnRows.of_columns.Goals as goal

pub returns : goal.returns
returns c =
    whole-seen _ _ _ (c.len-count.ensures ∙ first-common _ c.index.result.now c.index.ensures c.requires.some) c.requires.level
