use Rattle.std.proofs.Common.{◌≡◌, ◌<◌, [], All, length}
use Rattle.split_source.specs.declared.draws.Drawn.{Drawn}
use Rattle.split_source.specs.Gathered.{Joined}
use Rattle.split_source.proofs.settle.join_all.Given as goal

abbrev pub invariant-loop-seat : goal.invariant-loop-seat
invariant-loop-seat l =
    (l.pen.table_id ≡ l.initial.pen.table_id)
    × (0 < l.pen.me.0.seats)
    × (l.pen.me.1 ≡ [])
    × All (λ s. s.claims ≡ record { table = l.word.table_id; of = l.word.key }) l.seats.items
    × ((after : Drawn) → Joined l.pen.me.0 l.seats.items after → Joined l.initial.pen.me.0 l.initial.seats.items after)

abbrev pub decreases-loop-seat : goal.decreases-loop-seat
decreases-loop-seat l = length l.seats.items
