use Rattle.std.proofs.Common.{rules}
use Rattle.plan_checks.proofs.shapes.fault_path.Goals as goal

pub returns : goal.returns
returns c = search rules
