use Rattle.net_parts.specs.Pipes.{pipe_view}
use Rattle.net_making.proofs.LaneLemmas.{Lanes, Made}
use Rattle.net_making.proofs.pipes.add_task.Given as goal

abbrev pub invariant-loop-lane : goal.invariant-loop-lane
invariant-loop-lane g l = Made l.making (Lanes l.making l.own (pipe_view l.pipe) l.task l.lane) l.fn.stock l.stock l.fn.slots l.slots
