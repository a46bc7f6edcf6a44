use Rattle.std.proofs.Common.{◌≡◌, take}
use Rattle.tree_evaluator.proofs.sorts.copied_rows.Given as goal

abbrev pub invariant-loop-place : goal.invariant-loop-place
invariant-loop-place l = l.rows.items ≡ take l.place l.list
