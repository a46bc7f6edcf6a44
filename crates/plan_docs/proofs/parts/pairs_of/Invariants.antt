use Rattle.std.proofs.Common.{◌≡◌, map, take}
use Rattle.serde_json.specs.View.{view}
use Rattle.plan_docs.specs.Parts.{pair_of}
use Rattle.plan_docs.proofs.parts.pairs_of.Given as goal

abbrev pub invariant-loop-entry : goal.invariant-loop-entry
invariant-loop-entry l = l.pairs ≡ map pair_of (map view (take l.entry-index l.entries))
