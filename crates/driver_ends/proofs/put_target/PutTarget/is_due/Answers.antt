use Rattle.std.proofs.Common.{rules}
use Rattle.driver_ends.proofs.put_target.PutTarget.is_due.Goals as goal

pub returns-then-self-clause-last : goal.returns-then-self-clause-last
returns-then-self-clause-last c = search rules
