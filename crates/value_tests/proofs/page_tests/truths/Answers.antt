use Rattle.std.proofs.Common.{[], ◌∷◌, true, refl}
use Rattle.std.specs.Prelude.{IsTrue}
use Rattle.std.proofs.lemmas.List.Elements.{All-cons, All-nil}
use Rattle.sql_values.specs.declared.types.SqlType.TheVariants as kind
use Rattle.sql_values.specs.declared.value.Value.TheVariants as value
use Rattle.sql_values.specs.Cells.{cut}
use Rattle.sql_values.specs.ColumnRows.{fits_row}
use Rattle.value_tests.proofs.page_tests.truths.Goals as goal

pub of_rows-requires-clause-fits : goal.of_rows-requires-clause-fits
of_rows-requires-clause-fits c =
    rw c.requires
    (All-cons (λ row. IsTrue (fits_row (kind.Boolean ∷ []) (cut (1 ∷ []) row))) (value.Null ∷ value.Boolean true ∷ []) []
    refl (All-nil (λ row. IsTrue (fits_row (kind.Boolean ∷ []) (cut (1 ∷ []) row)))))
