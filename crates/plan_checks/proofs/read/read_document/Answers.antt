use Rattle.std.proofs.Common.{rules}
use Rattle.plan_checks.proofs.read.read_document.Goals as goal

pub returns-in-Ok-judge-clause-result : goal.returns-in-Ok-judge-clause-result
returns-in-Ok-judge-clause-result c = search rules
