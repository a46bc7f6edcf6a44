use Rattle.std.proofs.Common.{rules}
use Rattle.sql_functions.proofs.casts.printed.Goals as goal

pub returns-in-Decimal : goal.returns-in-Decimal
returns-in-Decimal c = search rules
