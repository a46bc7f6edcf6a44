use Rattle.std.proofs.Common.{◌≡◌, drop, map}
use Rattle.std.specs.List.{list_any}
use Rattle.plan_grammar.specs.Spots.{spot_of}
use Rattle.plan_checks.specs.Names.{numbers_node}
use Rattle.plan_checks.proofs.names.node_is_numbered.Given as goal

-- no place so far does
abbrev pub invariant-loop-place : goal.invariant-loop-place
invariant-loop-place l = list_any (numbers_node l.id) (map spot_of l.before) ≡ list_any (numbers_node l.id) (map spot_of (drop l.place-index l.before))
