use Rattle.std.proofs.Common.{◌≡◌}
use Rattle.tree_evaluator.specs.Pages.{joined}
use Rattle.tree_evaluator.proofs.lists.append_each.Given as goal

abbrev pub invariant-loop-place : goal.invariant-loop-place
invariant-loop-place l = l.blocks.items ≡ joined l.place l.fn.blocks.items l.more.items
