use Rattle.std.proofs.Common.{◌≡◌, take}
use Rattle.tree_evaluator.proofs.fit.same_types.Given as goal

abbrev pub invariant-loop-place : goal.invariant-loop-place
invariant-loop-place l = take l.place l.types ≡ take l.place l.others
