use Rattle.std.proofs.Common.{drop}
use Rattle.sql_values.specs.Columns.{kinds}
use Rattle.tree_evaluator.specs.Fits.{ColumnsFit}
use Rattle.tree_evaluator.proofs.fit.columns_fit.Given as goal

abbrev pub invariant-loop-place : goal.invariant-loop-place
invariant-loop-place l = ColumnsFit (kinds l.own) (drop l.place l.columns) (drop l.place l.types) → ColumnsFit (kinds l.own) l.columns l.types
