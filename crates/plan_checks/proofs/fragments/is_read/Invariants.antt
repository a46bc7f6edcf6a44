use Rattle.std.proofs.Common.{◌≡◌, drop, map}
use Rattle.std.specs.List.{list_any}
use Rattle.plan_grammar.specs.Spots.{spot_of}
use Rattle.plan_checks.specs.Fragments.{reads}
use Rattle.plan_checks.proofs.fragments.is_read.Given as goal

-- no place so far does
abbrev pub invariant-loop-place : goal.invariant-loop-place
invariant-loop-place l = list_any (reads l.fragment) (map spot_of l.places) ≡ list_any (reads l.fragment) (map spot_of (drop l.place-index l.places))
