use Rattle.std.proofs.Common.{rules}
use Rattle.sql_values.proofs.row_list.RowList.push.Goals as goal

pub returns-in-Rows-clause-ok : goal.returns-in-Rows-clause-ok
returns-in-Rows-clause-ok c = search rules
