use Rattle.std.proofs.Common.{rules}
use Rattle.plan_checks.proofs.fragments.reads_amiss.Goals as goal

pub returns-else-fragments-fragment : goal.returns-else-fragments-fragment
returns-else-fragments-fragment c = search rules
