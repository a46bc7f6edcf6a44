use Rattle.std.proofs.Common.{◌≡◌, ◌++◌, map}
use Rattle.std.specs.Vec.Iter.{into_iter_items}
use Rattle.plan_wiring.specs.Handed.{spread_seats_view}
use Rattle.seat_stocks.specs.Stocks.{deal_lanes, share_lanes}
use Rattle.seat_stocks.proofs.stock.add_spreads.Given as goal

abbrev pub invariant-loop-seats : goal.invariant-loop-seats
invariant-loop-seats l =
    (l.fn.deals ++ deal_lanes (map spread_seats_view l.fn.spreads.items) ≡ l.deals ++ deal_lanes (map spread_seats_view (into_iter_items l.seats-iterator)))
    × (l.fn.shares ++ share_lanes (map spread_seats_view l.fn.spreads.items) ≡ l.shares ++ share_lanes (map spread_seats_view (into_iter_items l.seats-iterator)))
