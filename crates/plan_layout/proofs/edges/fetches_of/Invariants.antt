use Rattle.std.proofs.Common.{◌≡◌, ◌++◌, drop, map}
use Rattle.plan_layout.specs.Edges.{fetches_of}
use Rattle.plan_layout.specs.Pipes.{pipe_view}
use Rattle.plan_layout.proofs.edges.fetches_of.Given as goal

abbrev pub invariant-loop-pipe : goal.invariant-loop-pipe
invariant-loop-pipe l =
    fetches_of l.fn.numbers l.at (map pipe_view l.pipes)
    ≡ map pipe_view l.fetches.items ++ fetches_of l.next l.place (map pipe_view (drop l.pipe-index l.pipes))
