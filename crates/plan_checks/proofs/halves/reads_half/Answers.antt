use Rattle.std.proofs.Common.{rules}
use Rattle.plan_checks.proofs.halves.reads_half.Goals as goal

pub returns-then-eq : goal.returns-then-eq
returns-then-eq c = search rules
