use Rattle.std.proofs.Common.{rules}
use Rattle.driver_loop.proofs.target.ResultTarget.put.Goals as goal

pub returns : goal.returns
returns c = search rules
