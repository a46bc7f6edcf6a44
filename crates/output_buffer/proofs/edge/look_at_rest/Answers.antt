use Rattle.std.proofs.Common.{rules}
use Rattle.output_buffer.proofs.edge.look_at_rest.Goals as goal

pub returns : goal.returns
returns c = search rules
