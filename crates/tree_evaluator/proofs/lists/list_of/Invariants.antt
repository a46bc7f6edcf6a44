use Rattle.std.proofs.Common.{◌≡◌, length}
use Rattle.tree_evaluator.proofs.ListLemmas.{Holds}
use Rattle.tree_evaluator.proofs.lists.list_of.Given as goal

abbrev pub invariant-loop-page : goal.invariant-loop-page
invariant-loop-page l = record {
  types : l.rows.types ≡ l.fn.rows.types;
  blocks : Holds l.fn.rows.types l.fn.rows.rows l.rows.rows l.blocks.items;
}

abbrev pub decreases-loop-page : goal.decreases-loop-page
decreases-loop-page l = length l.rows.rows
