use Rattle.std.proofs.Common.{◌≡◌, drop}
use Rattle.std.specs.List.{list_all}
use Rattle.sql_functions.specs.CallTypes.{same_type}
use Rattle.sql_functions.proofs.call_types.all_of_type.Given as goal

abbrev pub invariant-loop-other : goal.invariant-loop-other
invariant-loop-other l = list_all (same_type l.kind) l.kinds ≡ list_all (same_type l.kind) (drop l.other-index l.kinds)
