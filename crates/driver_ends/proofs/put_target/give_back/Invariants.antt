use Rattle.std.proofs.Common.{◌≡◌, ◌+◌, ◌≤◌, ◌++◌, length, map}
use Rattle.std.specs.Vec.{vec_capacity}
use Rattle.std.specs.Vec.Iter.{into_iter_items}
use Rattle.driver_ends.proofs.put_target.give_back.Given as goal

-- the seats so far, with those of the outlets that are left, are all of them, and there is room for these
abbrev pub invariant-loop-outlet : goal.invariant-loop-outlet
invariant-loop-outlet l = record {
  room : length l.seats.items + length (into_iter_items l.outlet-iterator) ≤ vec_capacity l.seats;
  seats : l.seats.items ++ map (λ outlet. outlet.seat) (into_iter_items l.outlet-iterator) ≡ map (λ outlet. outlet.seat) l.fn.outlets.items;
}
