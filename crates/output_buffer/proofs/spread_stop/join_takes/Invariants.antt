use Rattle.std.proofs.Common.{◌≡◌, ◌<◌, All, length}
use Rattle.crossbeam_queue.specs.Passes.{view, IsPassOf}
use Rattle.output_buffer.specs.declared.edge.EdgeView.{EdgeView}
use Rattle.output_buffer.specs.Joined.{JoinedTakes}
use Rattle.output_buffer.proofs.spread_stop.join_takes.Given as goal

abbrev pub invariant-loop-seat : goal.invariant-loop-seat
invariant-loop-seat l =
    IsPassOf l.queue l.pass
    × (0 < (view l.pass).parts)
    × All (λ s. s.edge.queue ≡ l.queue.table.shared.table_id) l.takes.items
    × ((after : EdgeView) → JoinedTakes (view l.pass) l.takes.items after → JoinedTakes (view l.initial.pass) l.initial.takes.items after)

abbrev pub decreases-loop-seat : goal.decreases-loop-seat
decreases-loop-seat l = length l.takes.items
