use Rattle.net_closing.proofs.AscendingLemmas.{rises_more}
use Rattle.net_closing.proofs.counts.are_ascending.Goals as goal

pub loop-place-preserved : goal.loop-place-preserved
loop-place-preserved c = rises_more c.args.counts.now c.loop-place.place c.loop-place.invariant c.if-counts-place.false
