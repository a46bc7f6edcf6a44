use Rattle.std.proofs.Common.{◌≡◌, ◌+◌, drop, map}
use Rattle.serde_json.specs.View.{view}
use Rattle.plan_docs.specs.Names.{place_named}
use Rattle.plan_docs.proofs.names.place_named.Given as goal

-- none so far has the name
abbrev pub invariant-loop-i : goal.invariant-loop-i
invariant-loop-i l = place_named l.name (map view l.objects) ≡ l.i + place_named l.name (map view (drop l.i l.objects))
