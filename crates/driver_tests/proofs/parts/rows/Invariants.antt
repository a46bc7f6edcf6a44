use Rattle.std.proofs.Common.{[], ◌∷◌, All, IsTrue}
use Rattle.sql_values.specs.ColumnRows.{fits_row}
use Rattle.sql_values.specs.declared.types.SqlType.TheVariants.{Bigint}
use Rattle.driver_tests.proofs.parts.rows.Given as goal

abbrev pub invariant-loop-number : goal.invariant-loop-number
invariant-loop-number l = All (λ row. IsTrue (fits_row (Bigint ∷ []) row)) l.rows
