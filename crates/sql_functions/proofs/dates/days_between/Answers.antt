use Rattle.std.proofs.Common.{rules}
use Rattle.sql_functions.proofs.dates.days_between.Goals as goal

pub returns-in-Date-Date : goal.returns-in-Date-Date
returns-in-Date-Date c = search rules
