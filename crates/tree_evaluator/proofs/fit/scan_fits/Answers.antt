use Rattle.std.proofs.Common.{List, length, subst}
use Rattle.sql_values.specs.declared.types.Column.{Column}
use Rattle.sql_values.specs.Columns.{kinds}
use Rattle.tree_evaluator.specs.Fits.{ColumnsFit}
use Rattle.tree_evaluator.proofs.FitLemmas.{has_some, scan_missing, scan_there}
use Rattle.tree_evaluator.proofs.fit.scan_fits.Goals as goal

pub returns-in-Some : goal.returns-in-Some
returns-in-Some c = λ yes. (
  has_some (length c.args.types.now) c.if-is_empty.ensures,
  c.if-types-columns.false,
  scan_there c.args.tables.now c.args.table c.in-Some.table.now c.args.columns.now c.args.types.now c.in-Some.ensures.lookup.3.0 c.in-Some.ensures.lookup.1 c.requires
      c.if-types-columns.false (subst (λ (own : List Column). ColumnsFit (kinds own) c.args.columns.now c.args.types.now) c.as_slice.ensures (c.columns_fit.ensures yes)),
)

pub returns-in-None : goal.returns-in-None
returns-in-None c = λ yes. (
  has_some (length c.args.types.now) c.if-is_empty.ensures,
  c.if-types-columns.false,
  scan_missing c.args.tables.now c.args.table c.args.columns.now c.args.types.now c.in-None.ensures.lookup.3,
)
