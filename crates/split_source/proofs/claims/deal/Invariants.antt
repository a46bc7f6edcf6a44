use Rattle.std.proofs.Common.{◌≡◌, [], replicate, ◌-◌}
use Rattle.std.specs.Vec.{vec_capacity}
use Rattle.split_source.specs.Seats.{new_seat}
use Rattle.split_source.proofs.claims.deal.Given as goal

abbrev pub invariant-loop : goal.invariant-loop
invariant-loop l =
    (l.seats.items ≡ replicate (l.counter - 1) (new_seat (record { table = l.word.table_id; of = l.word.key })))
    × (vec_capacity l.seats ≡ vec_capacity l.initial.seats)
    × (l.pen.table_id ≡ l.word.table_id)
    × (l.pen.me ≡ (record { of = l.word.key; seats = l.number - (l.counter - 1); ended = 0; numbers = [] }, []))
