use Rattle.std.proofs.Common.{rules}
use Rattle.sql_values.proofs.order.compare_cells.Goals as goal

pub returns-in-Null-default : goal.returns-in-Null-default
returns-in-Null-default c = search rules

pub returns-in-Descending : goal.returns-in-Descending
returns-in-Descending c = search rules
