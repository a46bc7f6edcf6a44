use Rattle.std.proofs.Common.{List, subst, sym}
use Rattle.sql_values.specs.declared.types.SqlType.{SqlType}
use Rattle.col_pages.specs.Fits.{IsOfTypes}
use Rattle.operator_tests.proofs.sorts.sorted.Goals as goal

pub take_in-requires : goal.take_in-requires
take_in-requires c =
    let page = c.in_ok-page.field-0 in
    (c.in_ok-op.ensures.takes page).1 (subst (λ (ts : List SqlType). IsOfTypes ts page) (sym c.in_ok-from_slice-2.ensures.items) c.in_ok-page.ensures)
