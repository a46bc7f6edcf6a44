use Rattle.std.proofs.Common.{◌≡◌, drop, map}
use Rattle.std.specs.List.{list_any}
use Rattle.serde_json.specs.View.{view}
use Rattle.plan_checks.specs.Names.{has_name}
use Rattle.plan_checks.proofs.names.any_has_name.Given as goal

-- no value so far does
abbrev pub invariant-loop-value : goal.invariant-loop-value
invariant-loop-value l = list_any (has_name l.name) (map view l.values) ≡ list_any (has_name l.name) (map view (drop l.value-index l.values))
