use Rattle.output_buffer.proofs.EdgeLemmas.{merges}
use Rattle.output_buffer.proofs.gather_stop.join_put.Goals as goal

pub absorb-requires-clause-rule : goal.absorb-requires-clause-rule
absorb-requires-clause-rule c = merges _ _ _ _ c.requires.pass.1
