use Rattle.std.proofs.Common.{◌≡◌, ◌+◌, ◌≤◌, drop, map}
use Rattle.std.specs.List.{count_by}
use Rattle.plan_grammar.specs.Spots.{spot_of}
use Rattle.plan_checks.specs.Limits.{is_node}
use Rattle.plan_checks.proofs.limits.count_nodes.Given as goal

-- those so far, and those of the places that are left, are all
abbrev pub invariant-loop-place : goal.invariant-loop-place
invariant-loop-place l =
    (l.nodes + count_by is_node (map spot_of (drop l.place-index l.places)) ≡ count_by is_node (map spot_of l.places)) × (l.nodes ≤ l.place-index)
