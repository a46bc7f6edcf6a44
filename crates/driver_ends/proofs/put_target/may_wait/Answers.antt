use Rattle.std.proofs.Common.{rules}
use Rattle.driver_ends.proofs.put_target.may_wait.Goals as goal

pub returns-in-Hash : goal.returns-in-Hash
returns-in-Hash c = search rules
