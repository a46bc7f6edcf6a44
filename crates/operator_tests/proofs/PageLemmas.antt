-- Rows that fit the types of their columns.
use Rattle.std.proofs.Common.{◌≡◌, List, [], ◌∷◌, ◌++◌}
use Rattle.std.proofs.lemmas.List.Elements.{All-push}
use Rattle.std.specs.Prelude.{IsTrue}
use Rattle.sql_values.specs.declared.types.SqlType.{SqlType}
use Rattle.sql_values.specs.declared.types.SqlType.TheVariants.{Bigint}
use Rattle.sql_values.specs.declared.value.Value.{Value}
use Rattle.sql_values.specs.ColumnRows.{fits_row}
use Rattle.col_pages.specs.Fits.{AllFit}

pub fits_types : (types : List SqlType) (row : List Value) → types ≡ Bigint ∷ [] → IsTrue (fits_row (Bigint ∷ []) row) → IsTrue (fits_row types row)
fits_types types row t fits = rw t fits

pub row_more : (types : List SqlType) (rows : List (List Value)) (row : List Value) → AllFit types rows → IsTrue (fits_row types row) → AllFit types (rows ++ row ∷ [])
row_more types rows row fit fits = All-push (λ row. IsTrue (fits_row types row)) rows row fit fits
