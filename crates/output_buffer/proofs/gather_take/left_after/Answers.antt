use Rattle.std.proofs.Common.{rules}
use Rattle.output_buffer.proofs.gather_take.left_after.Goals as goal

pub returns-in-Rows : goal.returns-in-Rows
returns-in-Rows c = search rules
