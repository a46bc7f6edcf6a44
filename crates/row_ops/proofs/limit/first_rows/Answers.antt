use Rattle.std.proofs.Common.{rules}
use Rattle.row_ops.proofs.limit.first_rows.Goals as goal

pub returns : goal.returns
returns c = search rules
