use Rattle.std.proofs.Common.{◌≡◌, map, take}
use Rattle.serde_json.specs.View.{view}
use Rattle.plan_docs.specs.Names.{column_type}
use Rattle.plan_docs.proofs.names.types_named.Given as goal

abbrev pub invariant-loop-name : goal.invariant-loop-name
invariant-loop-name l = l.types ≡ map (column_type (map view l.columns)) (map view (take l.name-index l.names))
