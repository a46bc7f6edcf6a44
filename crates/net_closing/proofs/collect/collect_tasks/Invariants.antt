use Rattle.std.proofs.Common.{◌≡◌, ◌++◌, List}
use Rattle.bag_laws.specs.Gather.{gather}
use Rattle.driver_loop.specs.Drivers.{DriverState}
use Rattle.driver_net_laws.specs.Settled.{in_task}
use Rattle.plan_layout.specs.Pipes.{pipe_view}
use Rattle.net_closing.specs.Held.{HoldsNoMore}
use Rattle.net_closing.specs.Left.{AreLeft, at_place}
use Rattle.net_closing.proofs.collect.collect_tasks.Given as goal

abbrev pub invariant-loop-task : goal.invariant-loop-task
invariant-loop-task g l = record {
  rest : HoldsNoMore l.fn.rows.items l.rows.items;
  seats : (of : DriverState → List g.row.T.Denot) (drivers : List DriverState) → AreLeft of drivers l.fn.rows.items
      → l.seats.items ≡ l.fn.seats.items ++ gather l.task (in_task (at_place of l.place) drivers (pipe_view l.pipe));
}
