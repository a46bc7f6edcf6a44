use Rattle.output_buffer.proofs.EdgeLemmas.{merges}
use Rattle.output_buffer.proofs.spread_stop.join_take.Goals as goal

pub absorb-requires-clause-rule : goal.absorb-requires-clause-rule
absorb-requires-clause-rule c = merges _ _ _ _ c.requires.pass.1
