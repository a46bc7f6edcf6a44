use Rattle.std.proofs.Common.{◌≡◌, drop, map}
use Rattle.std.specs.List.{position_from}
use Rattle.plan_layout.specs.Edges.{reads}
use Rattle.plan_layout.specs.Pipes.{pipe_view}
use Rattle.plan_layout.proofs.edges.place_of_reader.Given as goal

abbrev pub invariant-loop-place : goal.invariant-loop-place
invariant-loop-place l =
    position_from (reads l.number) 0 (map pipe_view l.pipes)
    ≡ position_from (reads l.number) l.place (map pipe_view (drop l.place l.pipes))
