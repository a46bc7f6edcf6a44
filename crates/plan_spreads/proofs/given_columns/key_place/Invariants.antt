use Rattle.std.proofs.Common.{◌≡◌, drop}
use Rattle.std.specs.List.{position_from}
use Rattle.plan_spreads.specs.Columns.{is_key}
use Rattle.plan_spreads.proofs.given_columns.key_place.Given as goal

abbrev pub invariant-loop-i : goal.invariant-loop-i
invariant-loop-i l = position_from (is_key l.column) 0 l.keys ≡ position_from (is_key l.column) l.i (drop l.i l.keys)
