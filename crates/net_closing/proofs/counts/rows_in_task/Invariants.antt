use Rattle.std.proofs.Common.{◌≡◌, List, min}
use Rattle.std.specs.Prelude.{sum}
use Rattle.bag_laws.specs.Gather.{gather}
use Rattle.count_laws.specs.Counts.{most_count}
use Rattle.driver_loop.specs.Drivers.{DriverState}
use Rattle.driver_loop.specs.Turns.{passed_of}
use Rattle.driver_net_laws.specs.Settled.{of_lane}
use Rattle.plan_layout.specs.Pipes.{pipe_view}
use Rattle.net_closing.specs.Left.{HoldsPassed, at_place}
use Rattle.net_closing.proofs.counts.rows_in_task.Given as goal

abbrev pub invariant-loop-lane : goal.invariant-loop-lane
invariant-loop-lane l =
    (drivers : List DriverState) → HoldsPassed drivers l.passed → l.rows ≡ min (sum (gather l.lane (of_lane (at_place passed_of l.place) drivers (pipe_view l.pipe) l.task))) most_count
