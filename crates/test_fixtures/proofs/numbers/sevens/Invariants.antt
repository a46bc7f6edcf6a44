use Rattle.std.proofs.Common.{◌≡◌, [], ◌∷◌, All, IsTrue, length}
use Rattle.sql_values.specs.Cells.{cut}
use Rattle.sql_values.specs.ColumnRows.{fits_row}
use Rattle.sql_values.specs.declared.types.SqlType.TheVariants.{Bigint}
use Rattle.test_fixtures.proofs.numbers.sevens.Given as goal

abbrev pub invariant-loop-number : goal.invariant-loop-number
invariant-loop-number l = (length l.rows ≡ l._number) × All (λ row. IsTrue (fits_row (Bigint ∷ []) (cut (0 ∷ []) row))) l.rows
