use Rattle.std.proofs.Common.{rules}
use Rattle.plan_checks.proofs.read.not_json.Goals as goal

pub returns : goal.returns
returns c = search rules
