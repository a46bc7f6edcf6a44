use Rattle.std.proofs.Common.{◌≡◌, ◌++◌, map, take}
use Rattle.plan_trees.specs.TreeTypes.{call_kind}
use Rattle.plan_trees.proofs.tree_types.append_call_types.Given as goal

abbrev pub invariant-loop-call : goal.invariant-loop-call
invariant-loop-call l = l.kinds ≡ l.initial.kinds ++ map (call_kind l.types) (take l.call-index l.calls)
