use Rattle.std.proofs.Common.{rules}
use Rattle.plan_checks.proofs.limits.bound_of.Goals as goal

pub returns-in-FragmentId : goal.returns-in-FragmentId
returns-in-FragmentId c = search rules
