use Rattle.std.proofs.Common.{◌≡◌, ap, arith}
use Rattle.crossbeam_queue.specs.Passes.{view}
use Rattle.output_buffer.specs.declared.edge.EdgeView.{EdgeView}
use Rattle.output_buffer.proofs.EdgeLemmas.{takes, stands}
use Rattle.output_buffer.proofs.spread_take.SpreadTake.take.Goals as goal

pub pop_as-requires-clause-rule : goal.pop_as-requires-clause-rule
pop_as-requires-clause-rule g c =
    let one : (view c.self.inside.pass).parts ≡ 1 = ap (λ (v : EdgeView). v.parts) c.self.invariant.one in
    (takes _ _ (omega (arith, one)), stands _ _)
