use Rattle.std.proofs.Common.{◌≡◌, drop}
use Rattle.std.specs.Prelude.{nat_le}
use Rattle.std.specs.List.{position_from}
use Rattle.plan_types.proofs.faults.first_beyond.Given as goal

abbrev pub invariant-loop-i : goal.invariant-loop-i
invariant-loop-i l = position_from (nat_le l.width) 0 l.columns ≡ position_from (nat_le l.width) l.i (drop l.i l.columns)
