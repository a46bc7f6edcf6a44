use Rattle.std.proofs.Common.{◌≡◌, ◌++◌, map, take}
use Rattle.sql_functions.specs.CallTypes.{type_at}
use Rattle.plan_trees.proofs.tree_types.append_key_types.Given as goal

abbrev pub invariant-loop-key : goal.invariant-loop-key
invariant-loop-key l = l.kinds ≡ l.initial.kinds ++ map (type_at l.types) (take l.key-index l.keys)
