use Rattle.std.proofs.Common.{◌≡◌, map, take}
use Rattle.serde_json.specs.View.{view}
use Rattle.plan_grammar.specs.Json.{text_of}
use Rattle.plan_docs.proofs.parts.names_of.Given as goal

abbrev pub invariant-loop-entry : goal.invariant-loop-entry
invariant-loop-entry l = l.names ≡ map text_of (map view (take l.entry-index l.entries))
