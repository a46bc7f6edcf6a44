use Rattle.std.proofs.Common.{rules}
use Rattle.sql_exprs.proofs.calm.is_calm_cast.Goals as goal

pub returns-in-None : goal.returns-in-None
returns-in-None c = search rules
