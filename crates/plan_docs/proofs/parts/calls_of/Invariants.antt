use Rattle.std.proofs.Common.{◌≡◌, map, take}
use Rattle.serde_json.specs.View.{view}
use Rattle.plan_docs.specs.Parts.{call_of}
use Rattle.plan_docs.proofs.parts.calls_of.Given as goal

abbrev pub invariant-loop-entry : goal.invariant-loop-entry
invariant-loop-entry l = l.calls ≡ map call_of (map view (take l.entry-index l.entries))
