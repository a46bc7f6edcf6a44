use Rattle.std.proofs.Common.{rules}
use Rattle.output_buffer.proofs.partitioner.Partitioner.new.Goals as goal

pub returns : goal.returns
returns c = search rules
