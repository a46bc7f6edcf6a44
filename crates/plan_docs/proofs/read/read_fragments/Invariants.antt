use Rattle.std.proofs.Common.{◌≡◌, map, take}
use Rattle.serde_json.specs.View.{view}
use Rattle.plan_docs.specs.Documents.{fragment_of}
use Rattle.plan_docs.specs.Plans.{fragment_view}
use Rattle.plan_docs.proofs.read.read_fragments.Given as goal

abbrev pub invariant-loop-entry : goal.invariant-loop-entry
invariant-loop-entry l = map fragment_view l.fragments ≡ map (fragment_of (view l.document)) (map view (take l.entry-index l.entries))
