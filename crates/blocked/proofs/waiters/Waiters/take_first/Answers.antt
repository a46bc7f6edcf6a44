use Rattle.std.proofs.Common.{rules}
use Rattle.blocked.proofs.waiters.Waiters.take_first.Goals as goal

pub returns : goal.returns
returns g c = search rules
