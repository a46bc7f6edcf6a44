use Rattle.std.proofs.Common.{◌≡◌, ◌-◌, ◌≤◌, length, map, take}
use Rattle.sql_values.specs.Cells.{cut}
use Rattle.tree_evaluator.proofs.leaves.scan_rows.Given as goal

abbrev pub invariant-loop-low : goal.invariant-loop-low
invariant-loop-low l = record {
  types : l.scanned.types ≡ l.types;
  rows : l.scanned.rows ≡ map (cut l.columns) (take l.low l.rows);
  within : l.low ≤ length l.rows;
}

abbrev pub decreases-loop-low : goal.decreases-loop-low
decreases-loop-low l = length l.rows - l.low
