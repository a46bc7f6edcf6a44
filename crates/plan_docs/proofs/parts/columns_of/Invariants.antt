use Rattle.std.proofs.Common.{◌≡◌, map, take}
use Rattle.serde_json.specs.View.{view}
use Rattle.plan_docs.specs.Parts.{column_of}
use Rattle.plan_docs.proofs.parts.columns_of.Given as goal

abbrev pub invariant-loop-entry : goal.invariant-loop-entry
invariant-loop-entry l = l.columns ≡ map column_of (map view (take l.entry-index l.entries))
