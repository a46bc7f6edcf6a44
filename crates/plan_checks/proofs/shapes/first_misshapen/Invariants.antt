use Rattle.std.proofs.Common.{◌≡◌, drop, map}
use Rattle.std.specs.List.{find}
use Rattle.plan_grammar.specs.Spots.{spot_of}
use Rattle.plan_checks.specs.Shapes.{is_misshapen}
use Rattle.plan_checks.proofs.shapes.first_misshapen.Given as goal

-- the first is among those that are left
abbrev pub invariant-loop-place : goal.invariant-loop-place
invariant-loop-place l = find is_misshapen (map spot_of l.places) ≡ find is_misshapen (map spot_of (drop l.place-index l.places))
