use Rattle.std.proofs.Common.{◌≡◌, ◌-◌, ◌<◌, arith, ap, refl}
use Rattle.crossbeam_queue.specs.Passes.{view}
use Rattle.output_buffer.specs.declared.edge.EdgeView.{EdgeView}
use Rattle.output_buffer.specs.Edges.{all_parts}
use Rattle.output_buffer.proofs.EdgeLemmas.{forks}
use Rattle.output_buffer.proofs.gather.hand_out.Goals as goal

pub another-one-requires-clause-rule : goal.another-one-requires-clause-rule
another-one-requires-clause-rule c =
    let is = c.loop-number.invariant.3 in
    let parts : (view c.loop-number.pass).parts ≡ all_parts - c.loop-number.number = ap (λ (v : EdgeView). v.parts) is in
    let more : c.loop-number.number < c.args.putters = c.loop-number-test.true in
    let putting = ap (λ (v : EdgeView). v.putting) is in
    let few = c.ranges.putters.fits in
    forks _ _ _ _ (omega (arith, parts, more, few)) (omega (arith, putting)) refl refl refl refl (omega (arith, parts, more, few)) (omega arith)
