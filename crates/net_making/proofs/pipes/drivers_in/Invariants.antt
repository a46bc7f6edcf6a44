use Rattle.std.proofs.Common.{◌≡◌, ◌+◌, drop, map}
use Rattle.net_parts.specs.Layouts.{drivers_in}
use Rattle.net_parts.specs.Pipes.{pipe_view}
use Rattle.net_making.proofs.pipes.drivers_in.Given as goal

abbrev pub invariant-loop-pipe : goal.invariant-loop-pipe
invariant-loop-pipe l = drivers_in (map pipe_view l.pipes) ≡ l.sum + drivers_in (map pipe_view (drop l.pipe-index l.pipes))
