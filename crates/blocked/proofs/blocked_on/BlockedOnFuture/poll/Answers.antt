use Rattle.std.proofs.Common.{rules}
use Rattle.blocked.proofs.blocked_on.BlockedOnFuture.poll.Goals as goal

pub returns-clause-registered : goal.returns-clause-registered
returns-clause-registered c = search rules

pub returns-clause-pending : goal.returns-clause-pending
returns-clause-pending c = search rules
