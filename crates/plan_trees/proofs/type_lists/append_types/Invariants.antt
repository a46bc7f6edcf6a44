use Rattle.std.proofs.Common.{◌≡◌, ◌++◌, take}
use Rattle.plan_trees.proofs.type_lists.append_types.Given as goal

abbrev pub invariant-loop-kind : goal.invariant-loop-kind
invariant-loop-kind l = l.types ≡ l.initial.types ++ take l.kind-index l.more
