use Rattle.std.proofs.Common.{◌≡◌, map, take}
use Rattle.plan_trees.specs.declared.tree.Pair.{Pair}
use Rattle.net_parts.proofs.builds.right_columns.Given as goal

abbrev pub invariant-loop-pair : goal.invariant-loop-pair
invariant-loop-pair l = l.columns.items ≡ map (λ (pair : Pair). pair.right) (take l.pair-index l.on)
