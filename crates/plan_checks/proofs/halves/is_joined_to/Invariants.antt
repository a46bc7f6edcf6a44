use Rattle.std.proofs.Common.{◌≡◌, drop, map}
use Rattle.std.specs.List.{list_any}
use Rattle.serde_json.specs.View.{view}
use Rattle.plan_grammar.specs.Spots.{spot_of}
use Rattle.plan_checks.specs.Halves.{joins}
use Rattle.plan_checks.proofs.halves.is_joined_to.Given as goal

-- no place so far does
abbrev pub invariant-loop-place : goal.invariant-loop-place
invariant-loop-place l =
    list_any (joins l.fragment (view l.document)) (map spot_of l.all)
    ≡ list_any (joins l.fragment (view l.document)) (map spot_of (drop l.place-index l.all))
