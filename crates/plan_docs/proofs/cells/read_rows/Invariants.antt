use Rattle.std.proofs.Common.{◌≡◌, map, take}
use Rattle.serde_json.specs.View.{view}
use Rattle.plan_docs.specs.Cells.{row_of_entries}
use Rattle.plan_docs.proofs.cells.read_rows.Given as goal

abbrev pub invariant-loop-entry : goal.invariant-loop-entry
invariant-loop-entry l = l.rows ≡ map (row_of_entries l.types) (map view (take l.entry-index l.entries))
