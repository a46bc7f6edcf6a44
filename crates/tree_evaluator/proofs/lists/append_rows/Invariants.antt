use Rattle.std.proofs.Common.{◌≡◌, ◌++◌, length}
use Rattle.tree_evaluator.proofs.lists.append_rows.Given as goal

abbrev pub invariant-loop-page : goal.invariant-loop-page
invariant-loop-page l = record {
  types : l.rows.types ≡ l.fn.rows.types;
  more_types : l.more.types ≡ l.fn.rows.types;
  rows : l.fn.rows.rows ++ l.fn.more.rows ≡ l.rows.rows ++ l.more.rows;
}

abbrev pub decreases-loop-page : goal.decreases-loop-page
decreases-loop-page l = length l.more.rows
