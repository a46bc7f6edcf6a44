use Rattle.std.proofs.Common.{◌≡◌, drop, map}
use Rattle.std.specs.List.{find}
use Rattle.serde_json.specs.View.{view}
use Rattle.plan_checks.specs.Names.{has_name}
use Rattle.plan_checks.proofs.names.first_has_name.Given as goal

-- the first is among those that are left
abbrev pub invariant-loop-value : goal.invariant-loop-value
invariant-loop-value l = find (has_name l.name) (map view l.values) ≡ find (has_name l.name) (map view (drop l.value-index l.values))
