use Rattle.std.proofs.Common.{◌≡◌, drop, map}
use Rattle.std.specs.List.{list_all}
use Rattle.serde_json.specs.View.{view}
use Rattle.plan_checks.specs.Shapes.{is_cell}
use Rattle.plan_checks.proofs.shapes.are_cells.Given as goal

-- the values so far pass the test
abbrev pub invariant-loop-value : goal.invariant-loop-value
invariant-loop-value l = list_all is_cell (map view l.values) ≡ list_all is_cell (map view (drop l.value-index l.values))
