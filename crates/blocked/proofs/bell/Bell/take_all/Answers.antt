use Rattle.std.proofs.Common.{rules}
use Rattle.blocked.proofs.bell.Bell.take_all.Goals as goal

pub returns-clause-waiters : goal.returns-clause-waiters
returns-clause-waiters g c = search rules

pub returns-clause-rest : goal.returns-clause-rest
returns-clause-rest g c = search rules
