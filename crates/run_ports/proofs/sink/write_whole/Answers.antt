use Rattle.std.proofs.Common.{arith, length-take, length-drop}
use Rattle.run_ports.proofs.WritingLemmas.{appends_more}
use Rattle.run_ports.proofs.sink.write_whole.Goals as goal

pub loop-at-preserved : goal.loop-at-preserved
loop-at-preserved g c =
    let so_far = c.loop-at.invariant in
    let told = c.in_ok-taken.ensures in (
      grind (arith, told.bound, c.loop-at-test.true, length-take, length-drop),
      appends_more _ _ _ c.args.bytes.now c.loop-at.at c.in_ok-taken.taken so_far.1 told.bytes,
      omega (arith, so_far.2, told.later),
    )
