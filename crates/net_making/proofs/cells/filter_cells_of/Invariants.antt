use Rattle.std.proofs.Common.{◌≡◌, ◌++◌, drop, map}
use Rattle.plan_wiring.specs.Handed.{SeatsForm, seats_view}
use Rattle.net_making.proofs.cells.filter_cells_of.Given as goal

abbrev pub invariant-loop-own : goal.invariant-loop-own
invariant-loop-own l =
    l.cells ++ map (λ (s : SeatsForm). s.filters) (map seats_view (drop l.own-index l.seats)) ≡ map (λ (s : SeatsForm). s.filters) (map seats_view l.seats)
