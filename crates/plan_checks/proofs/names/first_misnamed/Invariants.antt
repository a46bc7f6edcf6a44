use Rattle.std.proofs.Common.{◌≡◌, drop, map, take, []}
use Rattle.serde_json.specs.View.{view}
use Rattle.plan_grammar.specs.Spots.{spot_of}
use Rattle.plan_checks.specs.Names.{first_misnamed}
use Rattle.plan_checks.proofs.names.first_misnamed.Given as goal

-- the first is among those that are left, after those so far
abbrev pub invariant-loop-i : goal.invariant-loop-i
invariant-loop-i l =
    first_misnamed (view l.document) [] (map spot_of l.places)
    ≡ first_misnamed (view l.document) (map spot_of (take l.i l.places)) (map spot_of (drop l.i l.places))
