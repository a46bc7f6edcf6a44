use Rattle.std.proofs.Common.{◌≡◌, ◌++◌, drop, map}
use Rattle.serde_json.specs.View.{view}
use Rattle.plan_docs.specs.Cells.{cells_from}
use Rattle.plan_docs.proofs.cells.read_cells.Given as goal

-- the cells so far, and those that are left, are all
abbrev pub invariant-loop-i : goal.invariant-loop-i
invariant-loop-i l = cells_from l.types 0 (map view l.entries) ≡ l.cells.items ++ cells_from l.types l.i (map view (drop l.i l.entries))
