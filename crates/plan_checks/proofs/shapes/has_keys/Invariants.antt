use Rattle.std.proofs.Common.{◌≡◌, drop}
use Rattle.serde_json.specs.View.{view}
use Rattle.plan_checks.specs.Shapes.{has_keys}
use Rattle.plan_checks.proofs.shapes.has_keys.Given as goal

-- the keys so far are there
abbrev pub invariant-loop-part : goal.invariant-loop-part
invariant-loop-part l = has_keys l.parts (view l.object) ≡ has_keys (drop l.part-index l.parts) (view l.object)
