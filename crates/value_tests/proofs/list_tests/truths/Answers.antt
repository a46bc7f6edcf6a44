use Rattle.std.proofs.Common.{[], ◌∷◌, true, refl}
use Rattle.std.specs.Prelude.{IsTrue}
use Rattle.std.proofs.lemmas.List.Elements.{All-cons, All-nil}
use Rattle.sql_values.specs.declared.types.SqlType.TheVariants.{Boolean}
use Rattle.sql_values.specs.declared.value.Value.TheVariants as value
use Rattle.sql_values.specs.Blocks.{fits}
use Rattle.sql_values.specs.Cells.{cell}
use Rattle.value_tests.proofs.list_tests.truths.Goals as goal

pub block-requires-clause-fits : goal.block-requires-clause-fits
block-requires-clause-fits c =
    rw c.requires (All-cons (λ row. IsTrue (fits Boolean (cell row 0))) (value.Boolean true ∷ []) [] refl (All-nil (λ row. IsTrue (fits Boolean (cell row 0)))))
