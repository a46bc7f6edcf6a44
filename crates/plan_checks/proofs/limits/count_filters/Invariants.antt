use Rattle.std.proofs.Common.{◌≡◌, ◌+◌, ◌≤◌, drop, map}
use Rattle.std.specs.List.{count_by}
use Rattle.plan_grammar.specs.Spots.{spot_of}
use Rattle.plan_checks.specs.Limits.{is_filter}
use Rattle.plan_checks.proofs.limits.count_filters.Given as goal

-- those so far, and those of the places that are left, are all
abbrev pub invariant-loop-place : goal.invariant-loop-place
invariant-loop-place l =
    (l.filters + count_by is_filter (map spot_of (drop l.place-index l.places)) ≡ count_by is_filter (map spot_of l.places)) × (l.filters ≤ l.place-index)
