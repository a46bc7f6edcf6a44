use Rattle.std.proofs.Common.{◌≡◌, ◌++◌, List, drop, map}
use Rattle.std.specs.Prelude.{All}
use Rattle.driver_loop.specs.Drivers.{DriverState}
use Rattle.driver_net_laws.specs.Settled.{deals_in, deals_into}
use Rattle.plan_layout.specs.Pipes.{pipe_view}
use Rattle.net_closing.specs.Back.{FetchHasTask}
use Rattle.net_closing.specs.Held.{HoldsNoMore}
use Rattle.net_closing.specs.Left.{AreLeft}
use Rattle.net_closing.proofs.collect.collect_deals.Given as goal

abbrev pub invariant-loop-pipe : goal.invariant-loop-pipe
invariant-loop-pipe l = record {
  rest : HoldsNoMore l.fn.rows.items l.rows.items;
  tasks : All (FetchHasTask l.at l.task) (map pipe_view (drop l.pipe-index l.layout)) → All (FetchHasTask l.at l.task) (map pipe_view l.layout);
  seats : (drivers : List DriverState) → AreLeft deals_in drivers l.fn.rows.items
      → l.fn.seats.items ++ deals_into (map pipe_view l.layout) drivers l.at l.task
      ≡ l.seats.items ++ deals_into (map pipe_view (drop l.pipe-index l.layout)) drivers l.at l.task;
}
