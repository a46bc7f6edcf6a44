use Rattle.std.proofs.Common.{rules}
use Rattle.blocked.proofs.bell.Bell.park.Goals as goal

pub returns-clause-cause : goal.returns-clause-cause
returns-clause-cause g c = search rules
