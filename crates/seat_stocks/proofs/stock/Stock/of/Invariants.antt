use Rattle.std.proofs.Common.{◌≡◌, map}
use Rattle.std.specs.Vec.Iter.{into_iter_items}
use Rattle.plan_wiring.specs.Handed.{seats_view}
use Rattle.seat_stocks.specs.Stocks.{stock_of, with_all}
use Rattle.seat_stocks.proofs.stock.Stock.of.Given as goal

abbrev pub invariant-loop-own : goal.invariant-loop-own
invariant-loop-own l = stock_of (map seats_view l.fn.seats.items) ≡ with_all l.stock (map seats_view (into_iter_items l.own-iterator))
