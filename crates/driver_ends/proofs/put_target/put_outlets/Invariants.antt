use Rattle.std.proofs.Common.{◌≡◌, ◌+◌, ◌≤◌, ◌++◌, [], length, map}
use Rattle.std.specs.Prelude.{All}
use Rattle.std.specs.Vec.{vec_capacity}
use Rattle.std.specs.Vec.Iter.{into_iter_items}
use Rattle.driver_ends.specs.Outlets.{new_outlet}
use Rattle.driver_ends.proofs.put_target.put_outlets.Given as goal

-- the outlets so far, with those of the seats that are left, are all of them, there is room for these, and none of them
-- has put anything
abbrev pub invariant-loop-seat : goal.invariant-loop-seat
invariant-loop-seat l = record {
  room : length l.outlets.items + length (into_iter_items l.seat-iterator) ≤ vec_capacity l.outlets;
  outlets : l.outlets.items ++ map new_outlet (into_iter_items l.seat-iterator) ≡ map new_outlet l.fn.seats.items;
  fresh : All (λ s. s.put ≡ []) (into_iter_items l.seat-iterator);
}
