use Rattle.std.proofs.Common.{rules}
use Rattle.plan_types.proofs.operators.boolean_rows.Goals as goal

pub returns : goal.returns
returns c = search rules
