use Rattle.std.proofs.Common.{rules}
use Rattle.plan_checks.proofs.shapes.is_whole.Goals as goal

pub returns-else-is_open : goal.returns-else-is_open
returns-else-is_open c = search rules
