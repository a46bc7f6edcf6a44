use Rattle.net_making.proofs.LaneLemmas.{Made, Pipes}
use Rattle.net_making.proofs.pipes.make_all.Given as goal

abbrev pub invariant-loop-own : goal.invariant-loop-own
invariant-loop-own g l = Made l.making (Pipes l.making l.own) l.fn.stock l.stock l.initial.slots l.slots
