use Rattle.std.proofs.Common.{rules}
use Rattle.sql_values.proofs.row_list.RowList.push_to_rows.Goals as goal

pub returns-clause-ok : goal.returns-clause-ok
returns-clause-ok c = search rules
