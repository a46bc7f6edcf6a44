use Rattle.std.proofs.Common.{◌≡◌, drop}
use Rattle.std.specs.Cmp.Lexicographic.{pointwise}
use Rattle.sql_functions.specs.CallTypes.{same_type}
use Rattle.plan_types.proofs.operators.are_same.Given as goal

abbrev pub invariant-loop-i : goal.invariant-loop-i
invariant-loop-i l = pointwise same_type l.kinds l.others ≡ pointwise same_type (drop l.i l.kinds) (drop l.i l.others)
