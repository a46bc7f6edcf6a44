use Rattle.std.proofs.Common.{◌≡◌, ◌-◌, ap, arith}
use Rattle.crossbeam_queue.specs.Passes.{view}
use Rattle.output_buffer.specs.declared.edge.EdgeView.{EdgeView}
use Rattle.output_buffer.specs.Edges.{all_parts}
use Rattle.output_buffer.proofs.EdgeLemmas.{takes, stands}
use Rattle.output_buffer.proofs.gather_take.GatherTake.take.Goals as goal

pub pop_as-requires-clause-rule : goal.pop_as-requires-clause-rule
pop_as-requires-clause-rule g c =
    let rest : (view c.self.inside.pass).parts ≡ all_parts - c.self.inside.putters = ap (λ (v : EdgeView). v.parts) c.self.invariant.rest in
    (takes _ _ (omega (arith, rest, c.self.invariant.few)), stands _ _)
