use Rattle.std.proofs.Common.{◌≡◌, []}
use Rattle.std.specs.Prelude.{All}
use Rattle.std.specs.Vec.Iter.{into_iter_items}
use Rattle.driver_tests.proofs.edge_drivers.add_takers.Given as goal

-- none of the seats that are left has taken anything
abbrev pub invariant-loop-seat : goal.invariant-loop-seat
invariant-loop-seat l = All (λ s. s.took ≡ []) (into_iter_items l.seat-iterator)
