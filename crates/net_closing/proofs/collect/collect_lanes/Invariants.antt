use Rattle.std.proofs.Common.{◌≡◌, ◌++◌, List}
use Rattle.bag_laws.specs.Gather.{gather}
use Rattle.driver_loop.specs.Drivers.{DriverState}
use Rattle.driver_net_laws.specs.Settled.{of_lane}
use Rattle.plan_layout.specs.Pipes.{pipe_view}
use Rattle.net_closing.specs.Held.{HoldsNoMore}
use Rattle.net_closing.specs.Left.{AreLeft, at_place}
use Rattle.net_closing.proofs.collect.collect_lanes.Given as goal

abbrev pub invariant-loop-lane : goal.invariant-loop-lane
invariant-loop-lane g l = record {
  rest : HoldsNoMore l.fn.rows.items l.rows.items;
  seats : (of : DriverState → List g.row.T.Denot) (drivers : List DriverState) → AreLeft of drivers l.fn.rows.items
      → l.seats.items ≡ l.fn.seats.items ++ gather l.lane (of_lane (at_place of l.place) drivers (pipe_view l.pipe) l.task);
}
