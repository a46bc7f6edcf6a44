use Rattle.std.proofs.Common.{◌≡◌, ◌+◌, drop, map}
use Rattle.plan_layout.specs.Pipes.{pipe_view}
use Rattle.plan_wiring.specs.Shares.{fragment_putters}
use Rattle.plan_wiring.proofs.counts.fragment_putters.Given as goal

abbrev pub invariant-loop-pipe : goal.invariant-loop-pipe
invariant-loop-pipe l =
    fragment_putters l.at (map pipe_view l.pipes)
    ≡ l.sum + fragment_putters l.at (map pipe_view (drop l.pipe-index l.pipes))
