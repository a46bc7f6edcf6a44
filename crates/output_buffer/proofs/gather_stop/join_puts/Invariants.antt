use Rattle.std.proofs.Common.{◌≡◌, ◌<◌, All, length}
use Rattle.crossbeam_queue.specs.Passes.{view, IsPassOf}
use Rattle.output_buffer.specs.declared.edge.EdgeView.{EdgeView}
use Rattle.output_buffer.specs.Joined.{JoinedPuts}
use Rattle.output_buffer.proofs.gather_stop.join_puts.Given as goal

abbrev pub invariant-loop-seat : goal.invariant-loop-seat
invariant-loop-seat l =
    IsPassOf l.queue l.pass
    × (0 < (view l.pass).parts)
    × All (λ s. s.edge.queue ≡ l.queue.table.shared.table_id) l.puts.items
    × ((after : EdgeView) → JoinedPuts (view l.pass) l.puts.items after → JoinedPuts (view l.initial.pass) l.initial.puts.items after)

abbrev pub decreases-loop-seat : goal.decreases-loop-seat
decreases-loop-seat l = length l.puts.items
