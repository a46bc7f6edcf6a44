use Rattle.std.proofs.Common.{◌≡◌, ◌+◌, drop, map}
use Rattle.plan_layout.specs.Edges.{sources_in}
use Rattle.plan_layout.specs.Pipes.{pipe_view}
use Rattle.plan_layout.proofs.edges.sources_in.Given as goal

abbrev pub invariant-loop-pipe : goal.invariant-loop-pipe
invariant-loop-pipe l = sources_in (map pipe_view l.pipes) ≡ l.sum + sources_in (map pipe_view (drop l.pipe-index l.pipes))
