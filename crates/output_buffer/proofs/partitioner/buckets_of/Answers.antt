use Rattle.std.proofs.Common.{rules}
use Rattle.output_buffer.proofs.partitioner.buckets_of.Goals as goal

pub returns : goal.returns
returns c = search rules
