use Rattle.std.proofs.Common.{rules}
use Rattle.driver_loop.proofs.target.TargetPageTarget.is_finished.Goals as goal

pub returns-in-Deal-clause-finished : goal.returns-in-Deal-clause-finished
returns-in-Deal-clause-finished c = search rules
