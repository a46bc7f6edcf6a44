use Rattle.std.proofs.Common.{rules}
use Rattle.sql_exprs.proofs.typing.+typing.Goals as goal

pub type_cast-returns : goal.type_cast-returns
type_cast-returns t c = search rules
