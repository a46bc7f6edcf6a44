use Rattle.std.proofs.Common.{◌≡◌, ◌++◌, length, take}
use Rattle.tree_evaluator.proofs.lists.limit_rows.Given as goal

abbrev pub invariant-loop-room : goal.invariant-loop-room
invariant-loop-room l = record {
  types : l.rows.types ≡ l.fn.rows.types;
  kept_types : l.kept.types ≡ l.fn.rows.types;
  rows : take l.count l.fn.rows.rows ≡ l.kept.rows ++ take l.room l.rows.rows;
}

abbrev pub decreases-loop-room : goal.decreases-loop-room
decreases-loop-room l = length l.rows.rows
