use Rattle.std.proofs.Common.{rules}
use Rattle.row_ops.proofs.typing.is_typed.Goals as goal

pub returns-in-Err-Refused-clause-answer : goal.returns-in-Err-Refused-clause-answer
returns-in-Err-Refused-clause-answer c = search rules
