use Rattle.std.proofs.Common.{◌≡◌, ◌-◌, []}
use Rattle.std.specs.Prelude.{replicate}
use Rattle.std.specs.Vec.{vec_capacity}
use Rattle.crossbeam_queue.specs.Passes.{view, IsPassOf}
use Rattle.output_buffer.specs.Edges.{all_parts, edge_view}
use Rattle.output_buffer.specs.Seats.{edge_of, new_spread_take}
use Rattle.output_buffer.proofs.spread.hand_out.Given as goal

abbrev pub invariant-loop-taker : goal.invariant-loop-taker
invariant-loop-taker l =
    (l.takes.items ≡ replicate l._taker (new_spread_take (edge_of l.queue l.bells)))
    × (vec_capacity l.takes ≡ vec_capacity l.initial.takes)
    × IsPassOf l.queue l.pass
    × (view l.pass ≡ edge_view (all_parts - l._taker) 1 [] [])
