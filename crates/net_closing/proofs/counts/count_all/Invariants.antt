use Rattle.std.proofs.Common.{◌≡◌, ◌++◌, List, drop}
use Rattle.driver_loop.specs.Drivers.{DriverState}
use Rattle.plan_layout.specs.Pipes.{pipe_view}
use Rattle.net_closing.specs.Counts.{counts_from}
use Rattle.net_closing.specs.Left.{HoldsPassed}
use Rattle.net_closing.proofs.counts.count_all.Given as goal

abbrev pub invariant-loop-place : goal.invariant-loop-place
invariant-loop-place l = (drivers : List DriverState) → HoldsPassed drivers l.passed
    → l.fn.counts.items ++ counts_from drivers (pipe_view l.pipe) 0 l.filters ≡ l.counts.items ++ counts_from drivers (pipe_view l.pipe) l.place (drop l.place l.filters)
