use Rattle.std.proofs.Common.{◌≡◌, take}
use Rattle.col_pages.specs.Fits.{AllFit}
use Rattle.tree_evaluator.proofs.fit.rows_fit.Given as goal

abbrev pub invariant-loop-place : goal.invariant-loop-place
invariant-loop-place l = record {
  types : l.held.types ≡ l.types;
  fit : AllFit l.types (take l.place l.rows);
}
