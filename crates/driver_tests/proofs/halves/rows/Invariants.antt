use Rattle.std.proofs.Common.{[], ◌∷◌, All, IsTrue}
use Rattle.sql_values.specs.ColumnRows.{fits_row}
use Rattle.sql_values.specs.declared.types.SqlType.TheVariants.{Bigint}
use Rattle.driver_tests.proofs.halves.rows.Given as goal

abbrev pub invariant-loop-word : goal.invariant-loop-word
invariant-loop-word l = All (λ row. IsTrue (fits_row (Bigint ∷ Bigint ∷ []) row)) l.rows
