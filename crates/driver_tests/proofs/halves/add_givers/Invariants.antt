use Rattle.std.proofs.Common.{◌≡◌}
use Rattle.std.specs.Prelude.{All}
use Rattle.std.specs.Vec.Iter.{into_iter_items}
use Rattle.output_buffer.specs.Seats.{new_gather_put}
use Rattle.driver_tests.proofs.halves.add_givers.Given as goal

-- the seats that are left are as they were made
abbrev pub invariant-loop-seat : goal.invariant-loop-seat
invariant-loop-seat l = All (λ s. s ≡ new_gather_put s.edge s.number) (into_iter_items l.seat-iterator)
