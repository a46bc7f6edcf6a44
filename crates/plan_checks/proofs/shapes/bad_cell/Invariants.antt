use Rattle.std.proofs.Common.{◌≡◌, drop, map, not}
use Rattle.std.specs.List.{position_from}
use Rattle.serde_json.specs.View.{view}
use Rattle.plan_checks.specs.Shapes.{is_cell}
use Rattle.plan_checks.proofs.shapes.bad_cell.Given as goal

-- the first is among those that are left
abbrev pub invariant-loop-i : goal.invariant-loop-i
invariant-loop-i l =
    position_from (λ c. not (is_cell c)) 0 (map view l.cells) ≡ position_from (λ c. not (is_cell c)) l.i (map view (drop l.i l.cells))
