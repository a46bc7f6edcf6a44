use Rattle.std.proofs.Common.{◌≡◌, drop}
use Rattle.std.specs.List.{position_from}
use Rattle.plan_types.specs.Aggregates.{takes_not}
use Rattle.plan_types.proofs.aggregates.first_untaken.Given as goal

abbrev pub invariant-loop-i : goal.invariant-loop-i
invariant-loop-i l = position_from (takes_not l.types) 0 l.calls ≡ position_from (takes_not l.types) l.i (drop l.i l.calls)
