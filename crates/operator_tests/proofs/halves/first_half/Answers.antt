use Rattle.std.proofs.Common.{List, subst, sym, ◌∙◌}
use Rattle.sql_values.specs.declared.types.SqlType.{SqlType}
use Rattle.col_pages.specs.Fits.{IsOfTypes}
use Rattle.operator_tests.proofs.halves.first_half.Goals as goal

pub loop-row-init : goal.loop-row-init
loop-row-init c = (
  tt,
  tt,
  λ p fit.
      (c.in_ok-op.ensures.takes p).1 (subst (λ (ts : List SqlType). IsOfTypes ts p) (sym c.in_ok-from_slice-3.ensures.items) fit),
)

pub take_in-requires : goal.take_in-requires
take_in-requires c = c.loop-row.invariant.2 c.in_ok-page.field-0 c.in_ok-page.ensures

pub loop-row-preserved : goal.loop-row-preserved
loop-row-preserved c =
    (tt, tt, λ p fit. c.take_in.ensures p (fit.of_types ∙ sym c.in_ok-page.ensures.of_types) (c.loop-row.invariant.2 p fit))
