use Rattle.std.proofs.Common.{◌≡◌, ◌+◌, drop, map}
use Rattle.plan_layout.specs.Layouts.{lanes_in}
use Rattle.plan_layout.specs.Pipes.{pipe_view}
use Rattle.plan_layout.proofs.layout.lanes_in.Given as goal

abbrev pub invariant-loop-pipe : goal.invariant-loop-pipe
invariant-loop-pipe l = lanes_in (map pipe_view l.pipes) ≡ l.sum + lanes_in (map pipe_view (drop l.pipe-index l.pipes))
