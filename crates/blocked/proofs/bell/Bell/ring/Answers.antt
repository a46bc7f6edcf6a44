use Rattle.std.proofs.Common.{rules}
use Rattle.blocked.proofs.bell.Bell.ring.Goals as goal

pub returns-clause-rung : goal.returns-clause-rung
returns-clause-rung g c = search rules
