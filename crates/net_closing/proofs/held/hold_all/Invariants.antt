use Rattle.std.proofs.Common.{◌≡◌, ◌++◌, Some, map}
use Rattle.std.specs.Vec.Iter.{into_iter_items}
use Rattle.net_closing.proofs.held.hold_all.Given as goal

abbrev pub invariant-loop-seat : goal.invariant-loop-seat
invariant-loop-seat g l = map Some l.fn.seats.items ≡ l.row.items ++ map Some (into_iter_items l.seat-iterator)
