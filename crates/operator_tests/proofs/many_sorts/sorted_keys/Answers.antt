use Rattle.std.proofs.Common.{List, subst, sym}
use Rattle.sql_values.specs.declared.types.SqlType.{SqlType}
use Rattle.col_pages.specs.Fits.{IsOfTypes}
use Rattle.operator_tests.proofs.many_sorts.sorted_keys.Goals as goal

pub take_keys-requires : goal.take_keys-requires
take_keys-requires c = λ p fits.
    (c.in_ok-op.ensures.takes p).1 (subst (λ (ts : List SqlType). IsOfTypes ts p) (sym c.in_ok-from_array-2.ensures.items) fits)
