-- A cell of a row that fits its types.
use Rattle.std.proofs.Common.{ℕ, zero, suc, List, [], ◌∷◌, refl}
use Rattle.std.specs.Prelude.{IsTrue, slice_get, unwrap_or}
use Rattle.std.proofs.lemmas.Bool.{and_parts}
use Rattle.sql_values.specs.declared.types.SqlType.{SqlType}
use Rattle.sql_values.specs.declared.types.SqlType.TheVariants as kind
use Rattle.sql_values.specs.declared.value.Value.{Value}
use Rattle.sql_values.specs.declared.value.Value.TheVariants as value
use Rattle.sql_values.specs.Blocks.{fits}
use Rattle.sql_values.specs.Cells.{cell}
use Rattle.sql_values.specs.ColumnRows.{fits_row}

null_fits : (k : SqlType) → IsTrue (fits k value.Null)
null_fits kind.Boolean = refl
null_fits kind.Bigint = refl
null_fits (kind.Decimal p s) = refl
null_fits kind.Varchar = refl
null_fits kind.Date = refl

-- it fits the type of its column, and any type past the last
pub cell_fits : (past : SqlType) (types : List SqlType) (row : List Value) (column : ℕ) → IsTrue (fits_row types row)
    → IsTrue (fits (unwrap_or (slice_get types column) past) (cell row column))
cell_fits past [] [] zero h = null_fits past
cell_fits past [] [] (suc column) h = null_fits past
cell_fits past [] (v ∷ row) column h = cc
cell_fits past (k ∷ kinds) [] column h = cc
cell_fits past (k ∷ kinds) (v ∷ row) zero h = (and_parts (fits k v) (fits_row kinds row) h).0
cell_fits past (k ∷ kinds) (v ∷ row) (suc column) h = cell_fits past kinds row column (and_parts (fits k v) (fits_row kinds row) h).1
