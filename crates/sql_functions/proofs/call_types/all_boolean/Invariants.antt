use Rattle.std.proofs.Common.{◌≡◌, drop}
use Rattle.std.specs.List.{list_all}
use Rattle.sql_functions.specs.CallTypes.{is_boolean}
use Rattle.sql_functions.proofs.call_types.all_boolean.Given as goal

abbrev pub invariant-loop-kind : goal.invariant-loop-kind
invariant-loop-kind l = list_all is_boolean l.kinds ≡ list_all is_boolean (drop l.kind-index l.kinds)
