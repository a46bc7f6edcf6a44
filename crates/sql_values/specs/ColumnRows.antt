-- Columns of one length, seen as the list of their rows.
use Rattle.std.specs.Prelude.{◌≡◌, ℕ, zero, suc, ◌<◌, List, [], ◌∷◌, ◌++◌, Bool, true, false, ◌&&◌, length, drop, map, replicate}
use Rattle.std.specs.List.{flat_map}
use Rattle.sql_values.specs.declared.types.SqlType.{SqlType}
use Rattle.sql_values.specs.declared.value.Value.{Value}
use Rattle.sql_values.specs.Blocks.{TypedCells, fits}

-- rows, and the first cells of one more
pub record TypedRows : Type 0 where
  pub types : List SqlType
  pub rows : List (List Value)
  pub begun : List Value

-- each row with the cell of a column before it
abbrev pub cons_each : List Value → List (List Value) → List (List Value)
cons_each (v ∷ vs) (row ∷ rows) = (v ∷ row) ∷ cons_each vs rows
cons_each vs rows = []

-- the first n rows of the columns
abbrev pub rows_of : ℕ → List TypedCells → List (List Value)
rows_of n [] = replicate n []
rows_of n (column ∷ columns) = cons_each column.cells (rows_of n columns)

abbrev pub kinds_of : List TypedCells → List SqlType
kinds_of columns = map (λ column. column.kind) columns

-- the cells past the first n of each column
abbrev pub begun_of : ℕ → List TypedCells → List Value
begun_of n columns = flat_map (λ column. drop n column.cells) columns

-- the first k columns have n + 1 cells, the others n
abbrev pub AreFilled : ℕ → ℕ → List TypedCells → Type 0
AreFilled n k [] = k ≡ 0
AreFilled n zero (column ∷ columns) = (length column.cells ≡ n) × AreFilled n zero columns
AreFilled n (suc k) (column ∷ columns) = (length column.cells ≡ suc n) × AreFilled n k columns

-- the length of the first column
abbrev pub common_length : List TypedCells → ℕ
common_length [] = 0
common_length (column ∷ columns) = length column.cells

-- whether a value fits the type at a place
abbrev pub fits_at : List SqlType → ℕ → Value → Bool
fits_at [] place v = false
fits_at (kind ∷ kinds) zero v = fits kind v
fits_at (kind ∷ kinds) (suc place) v = fits_at kinds place v

-- whether a row has a value for each type, and each fits
abbrev pub fits_row : List SqlType → List Value → Bool
fits_row [] [] = true
fits_row (kind ∷ kinds) (v ∷ row) = fits kind v && fits_row kinds row
fits_row kinds row = false

-- the types of the columns, which hold n rows and the first k cells of one more
pub record AreColumns (types : List SqlType) (columns : List TypedCells) (n k : ℕ) : Type 0 where
  pub some : 0 < length columns
  pub kinds : kinds_of columns ≡ types
  pub filled : AreFilled n k columns
