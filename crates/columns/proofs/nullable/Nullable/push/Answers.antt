use Rattle.std.proofs.Common.{rules}
use Rattle.columns.proofs.nullable.Nullable.push.Goals as goal

pub returns-in-None-clause-ok : goal.returns-in-None-clause-ok
returns-in-None-clause-ok c = search rules
