use Rattle.std.proofs.Common.{rules}
use Rattle.output_buffer.proofs.gather_take.GatherTake.ended.Goals as goal

pub returns : goal.returns
returns c = search rules
