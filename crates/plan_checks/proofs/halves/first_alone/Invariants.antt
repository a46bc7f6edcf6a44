use Rattle.std.proofs.Common.{◌≡◌, drop, map}
use Rattle.std.specs.List.{find}
use Rattle.serde_json.specs.View.{view}
use Rattle.plan_grammar.specs.Spots.{spot_of}
use Rattle.plan_checks.specs.Halves.{is_alone}
use Rattle.plan_checks.proofs.halves.first_alone.Given as goal

-- the first is among those that are left
abbrev pub invariant-loop-place : goal.invariant-loop-place
invariant-loop-place l =
    find (is_alone (view l.document) (map spot_of l.places)) (map spot_of l.places)
    ≡ find (is_alone (view l.document) (map spot_of l.places)) (map spot_of (drop l.place-index l.places))
