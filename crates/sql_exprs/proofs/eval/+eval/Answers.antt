use Rattle.std.proofs.Common.{rules}
use Rattle.sql_exprs.proofs.eval.+eval.Goals as goal

pub holds-returns : goal.holds-returns
holds-returns g t c = search rules

pub and_next-returns : goal.and_next-returns
and_next-returns g t c = search rules

pub or_next-returns : goal.or_next-returns
or_next-returns g t c = search rules
