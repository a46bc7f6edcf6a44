use Rattle.std.proofs.Common.{rules}
use Rattle.plan_docs.proofs.cells.read_cell.Goals as goal

pub returns-in-Err-Malformed : goal.returns-in-Err-Malformed
returns-in-Err-Malformed c = search rules
