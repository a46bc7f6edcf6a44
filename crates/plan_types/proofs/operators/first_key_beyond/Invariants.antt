use Rattle.std.proofs.Common.{◌≡◌, drop}
use Rattle.std.specs.List.{position_from}
use Rattle.plan_types.specs.Operators.{is_key_beyond}
use Rattle.plan_types.proofs.operators.first_key_beyond.Given as goal

abbrev pub invariant-loop-i : goal.invariant-loop-i
invariant-loop-i l = position_from (is_key_beyond l.width) 0 l.keys ≡ position_from (is_key_beyond l.width) l.i (drop l.i l.keys)
