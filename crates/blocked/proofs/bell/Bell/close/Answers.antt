use Rattle.std.proofs.Common.{rules}
use Rattle.blocked.proofs.bell.Bell.close.Goals as goal

pub returns-clause-shut : goal.returns-clause-shut
returns-clause-shut g c = search rules
