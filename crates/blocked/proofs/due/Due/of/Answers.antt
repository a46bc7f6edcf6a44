use Rattle.std.proofs.Common.{rules}
use Rattle.blocked.proofs.due.Due.of.Goals as goal

pub returns : goal.returns
returns c = search rules
