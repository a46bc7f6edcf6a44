use Rattle.std.proofs.Common.{◌≡◌, drop}
use Rattle.std.specs.List.{position_from}
use Rattle.plan_types.specs.Operators.{is_unequal}
use Rattle.plan_types.proofs.operators.first_unequal.Given as goal

abbrev pub invariant-loop-i : goal.invariant-loop-i
invariant-loop-i l = position_from (is_unequal l.left l.right) 0 l.on ≡ position_from (is_unequal l.left l.right) l.i (drop l.i l.on)
