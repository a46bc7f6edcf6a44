use Rattle.std.proofs.Common.{◌≡◌, ◌-◌, ◌<◌, arith, ap, refl}
use Rattle.crossbeam_queue.specs.Passes.{view}
use Rattle.output_buffer.specs.declared.edge.EdgeView.{EdgeView}
use Rattle.output_buffer.specs.Edges.{all_parts}
use Rattle.output_buffer.proofs.EdgeLemmas.{forks}
use Rattle.output_buffer.proofs.spread.hand_out.Goals as goal

pub another-one-requires-clause-rule : goal.another-one-requires-clause-rule
another-one-requires-clause-rule c =
    let is = c.loop-taker.invariant.3 in
    let parts : (view c.loop-taker.pass).parts ≡ all_parts - c.loop-taker._taker = ap (λ (v : EdgeView). v.parts) is in
    let more : c.loop-taker._taker < c.args.takers = c.loop-taker-test.true in
    let few = c.ranges.takers.fits in
    forks _ _ _ _ (omega (arith, parts, more, few)) (omega arith) refl refl refl refl (omega (arith, parts, more, few)) (omega arith)
