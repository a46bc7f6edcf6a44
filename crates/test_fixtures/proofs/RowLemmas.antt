-- Rows that fit the types of their columns.
use Rattle.std.proofs.Common.{List, [], ◌∷◌, ◌++◌, All}
use Rattle.std.proofs.lemmas.List.Elements.{All-push}
use Rattle.std.specs.Prelude.{IsTrue}
use Rattle.sql_values.specs.declared.types.SqlType.{SqlType}
use Rattle.sql_values.specs.declared.value.Value.{Value}
use Rattle.sql_values.specs.ColumnRows.{fits_row}

pub row_more : (types : List SqlType) (rows : List (List Value)) (row : List Value) → All (λ row. IsTrue (fits_row types row)) rows → IsTrue (fits_row types row) → All (λ row. IsTrue (fits_row types row)) (rows ++ row ∷ [])
row_more types rows row fit fits = All-push (λ row. IsTrue (fits_row types row)) rows row fit fits
