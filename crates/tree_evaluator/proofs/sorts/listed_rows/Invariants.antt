use Rattle.std.proofs.Common.{◌≡◌, ◌++◌}
use Rattle.std.specs.Vec.Iter.{into_iter_items}
use Rattle.tree_evaluator.proofs.sorts.listed_rows.Given as goal

-- what was listed so far, and what is left, are the rows
abbrev pub invariant-loop-row : goal.invariant-loop-row
invariant-loop-row l = l.list ++ into_iter_items l.row-iterator ≡ l.fn.rows.items
