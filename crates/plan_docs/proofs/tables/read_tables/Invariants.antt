use Rattle.std.proofs.Common.{◌≡◌, map, take}
use Rattle.serde_json.specs.View.{view}
use Rattle.plan_docs.specs.Documents.{table_of}
use Rattle.plan_docs.proofs.tables.read_tables.Given as goal

abbrev pub invariant-loop-entry : goal.invariant-loop-entry
invariant-loop-entry l = l.tables ≡ map table_of (map view (take l.entry-index l.entries))
