use Rattle.std.proofs.Common.{◌≡◌, drop, map}
use Rattle.std.specs.List.{list_any}
use Rattle.plan_grammar.specs.Spots.{spot_of}
use Rattle.plan_checks.specs.Names.{names_table}
use Rattle.plan_checks.proofs.names.table_is_named.Given as goal

-- no place so far does
abbrev pub invariant-loop-place : goal.invariant-loop-place
invariant-loop-place l = list_any (names_table l.name) (map spot_of l.before) ≡ list_any (names_table l.name) (map spot_of (drop l.place-index l.before))
