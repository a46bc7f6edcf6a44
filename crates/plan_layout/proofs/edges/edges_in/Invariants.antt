use Rattle.std.proofs.Common.{◌≡◌, ◌+◌, drop, map}
use Rattle.plan_layout.specs.Edges.{edges_in}
use Rattle.plan_layout.specs.Pipes.{pipe_view}
use Rattle.plan_layout.proofs.edges.edges_in.Given as goal

abbrev pub invariant-loop-pipe : goal.invariant-loop-pipe
invariant-loop-pipe l = edges_in (map pipe_view l.pipes) ≡ l.sum + edges_in (map pipe_view (drop l.pipe-index l.pipes))
