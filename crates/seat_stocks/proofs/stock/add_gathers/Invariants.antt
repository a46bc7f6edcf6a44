use Rattle.std.proofs.Common.{◌≡◌, ◌++◌, map}
use Rattle.std.specs.Vec.Iter.{into_iter_items}
use Rattle.plan_wiring.specs.Handed.{gather_seats_view}
use Rattle.seat_stocks.specs.Stocks.{put_lanes, take_lanes}
use Rattle.seat_stocks.proofs.stock.add_gathers.Given as goal

abbrev pub invariant-loop-seats : goal.invariant-loop-seats
invariant-loop-seats l =
    (l.fn.puts ++ put_lanes (map gather_seats_view l.fn.gathers.items) ≡ l.puts ++ put_lanes (map gather_seats_view (into_iter_items l.seats-iterator)))
    × (l.fn.takes ++ take_lanes (map gather_seats_view l.fn.gathers.items) ≡ l.takes ++ take_lanes (map gather_seats_view (into_iter_items l.seats-iterator)))
