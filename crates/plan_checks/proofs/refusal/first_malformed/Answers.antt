use Rattle.std.proofs.Common.{rules}
use Rattle.plan_checks.proofs.refusal.first_malformed.Goals as goal

pub returns-in-Some : goal.returns-in-Some
returns-in-Some c = search rules
