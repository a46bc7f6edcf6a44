use Rattle.std.proofs.Common.{◌≡◌, drop, map}
use Rattle.std.specs.List.{find}
use Rattle.serde_json.specs.View.{view}
use Rattle.plan_docs.specs.Names.{has_name}
use Rattle.plan_docs.proofs.names.first_named.Given as goal

-- none so far has the name
abbrev pub invariant-loop-object : goal.invariant-loop-object
invariant-loop-object l = find (has_name l.name) (map view l.objects) ≡ find (has_name l.name) (map view (drop l.object-index l.objects))
