-- What `ValuesOp` holds and may give.
use Rattle.std.specs.Prelude.{ℕ, ◌<◌, ◌≤◌, List, Bool, length, drop}
use Rattle.sql_values.specs.declared.types.SqlType.{SqlType}
use Rattle.sql_values.specs.declared.value.Value.{Value}
use Rattle.col_pages.specs.Fits.{AllFit}

-- its rows and their types, the size of its pages, how many rows it gave, and whether it was told to finish
pub record ValuesState : Type 0 where
  pub rows : List (List Value)
  pub types : List SqlType
  pub page : ℕ
  pub given : ℕ
  pub is_told : Bool

-- the rows that it has still to give
abbrev pub rows_to_give : ValuesState → List (List Value)
rows_to_give s = drop s.given s.rows

pub record AreGivable (types : List SqlType) (page : ℕ) (rows : List (List Value)) : Type 0 where
  pub some : 0 < length types
  pub fit : AllFit types rows
  pub size : 0 < page
  pub most : page ≤ 8192

pub record IsValues (s : ValuesState) : Type 0 where
  pub givable : AreGivable s.types s.page s.rows
  pub within : s.given ≤ length s.rows
