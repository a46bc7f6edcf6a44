use Rattle.net_parts.specs.Pipes.{pipe_view}
use Rattle.net_making.proofs.LaneLemmas.{Made, Tasks}
use Rattle.net_making.proofs.pipes.add_pipe.Given as goal

abbrev pub invariant-loop-task : goal.invariant-loop-task
invariant-loop-task g l = Made l.making (Tasks l.making l.own (pipe_view l.pipe) l.task) l.fn.stock l.stock l.fn.slots l.slots
