use Rattle.std.proofs.Common.{rules}
use Rattle.plan_types.proofs.aggregates.is_short.Goals as goal

pub returns-in-Decimal : goal.returns-in-Decimal
returns-in-Decimal c = search rules
