use Rattle.std.proofs.Common.{◌≡◌, ◌-◌, []}
use Rattle.std.specs.Vec.{vec_capacity}
use Rattle.crossbeam_queue.specs.Passes.{view, IsPassOf}
use Rattle.output_buffer.specs.Edges.{all_parts, edge_view}
use Rattle.output_buffer.specs.Seats.{edge_of, new_gather_puts}
use Rattle.output_buffer.proofs.gather.hand_out.Given as goal

abbrev pub invariant-loop-number : goal.invariant-loop-number
invariant-loop-number l =
    (l.puts.items ≡ new_gather_puts (edge_of l.queue l.bells) l.number)
    × (vec_capacity l.puts ≡ vec_capacity l.initial.puts)
    × IsPassOf l.queue l.pass
    × (view l.pass ≡ edge_view (all_parts - l.number) (1 - l.number) [] [])
