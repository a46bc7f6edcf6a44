use Rattle.std.proofs.Common.{◌∙◌, List, ap, arith, length, subst, sym}
use Rattle.std.proofs.lemmas.List.{take_all}
use Rattle.sql_values.specs.declared.types.SqlType.{SqlType}
use Rattle.sql_values.specs.ColumnRows.{TypedRows, fits_row}
use Rattle.col_pages.specs.Fits.{AllFit}
use Rattle.tree_evaluator.proofs.FitLemmas.{fit_more, has_some}
use Rattle.tree_evaluator.proofs.fit.rows_fit.Goals as goal

pub loop-place-preserved : goal.loop-place-preserved
loop-place-preserved c = record {
  types = ap (λ (h : TypedRows). h.types) c.in_ok-push.ensures.ok ∙ c.loop-place.invariant.types;
  fit =
      fit_more c.args.types.now c.args.rows.now c.loop-place.place c.in_ok-row.row c.loop-place.invariant.fit (omega (arith, c.loop-place-test.true, c.len-place-end.ensures))
      c.in_ok-row.ensures
      (ap (λ (ts : List SqlType). fits_row ts c.in_ok-row.row) (sym c.loop-place.invariant.types) ∙ sym c.in_ok-push.ensures.fits ∙ c.if-not-branch.false);
}

pub returns : goal.returns
returns c = λ yes. (
  has_some (length c.args.types.now) c.if-is_empty.ensures,
  subst (AllFit c.args.types.now) (take_all c.loop-place.place c.args.rows.now (omega (arith, c.loop-place-test.false, c.len-place-end.ensures))) c.loop-place.invariant.fit,
)
