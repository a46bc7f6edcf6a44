use Rattle.std.proofs.Common.{rules}
use Rattle.plan_checks.proofs.refusal.first_refused.Goals as goal

pub returns-in-None : goal.returns-in-None
returns-in-None c = search rules
