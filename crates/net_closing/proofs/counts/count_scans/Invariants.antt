use Rattle.std.proofs.Common.{◌≡◌, ◌++◌, List, drop, map}
use Rattle.std.specs.Prelude.{flat_map}
use Rattle.driver_loop.specs.Drivers.{DriverState}
use Rattle.plan_layout.specs.Filters.{scan_filters}
use Rattle.plan_layout.specs.Pipes.{PipeForm, pipe_view}
use Rattle.net_closing.specs.Counts.{counts_from}
use Rattle.net_closing.specs.Left.{HoldsPassed}
use Rattle.net_closing.proofs.counts.count_scans.Given as goal

abbrev pub invariant-loop-at : goal.invariant-loop-at
invariant-loop-at l = (drivers : List DriverState) → HoldsPassed drivers l.passed
    → l.fn.counts.items ++ flat_map (λ (pipe : PipeForm). counts_from drivers pipe 0 (scan_filters (map pipe_view l.layout) pipe)) (map pipe_view l.layout)
    ≡ l.counts.items ++ flat_map (λ (pipe : PipeForm). counts_from drivers pipe 0 (scan_filters (map pipe_view l.layout) pipe)) (map pipe_view (drop l.at l.layout))
