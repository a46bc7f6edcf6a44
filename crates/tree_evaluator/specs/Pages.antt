-- Pages of one list of types, seen as their rows.
use Rattle.std.specs.Prelude.{ℕ, suc, ◌≡◌, ◌<◌, List, [], ◌∷◌, ◌++◌, length}
use Rattle.sql_values.specs.declared.types.SqlType.{SqlType}
use Rattle.sql_values.specs.declared.value.Value.{Value}
use Rattle.sql_values.specs.Blocks.{TypedCells, with_cells}
use Rattle.col_pages.specs.Pages.{TypedPage}
use Rattle.col_pages.specs.Fits.{AllFit}

abbrev pub rows_in : List TypedPage → List (List Value)
rows_in [] = []
rows_in (page ∷ pages) = page.rows ++ rows_in pages

-- each page has the types and a row, and its rows fit the types
abbrev pub ArePages : List SqlType → List TypedPage → Type 0
ArePages types [] = Unit {0}
ArePages types (page ∷ pages) = (page.types ≡ types) × (0 < length page.rows) × AllFit types page.rows × ArePages types pages

abbrev pub seen : List SqlType → List TypedPage → TypedPage
seen types pages = record { types = types; rows = rows_in pages }

-- the first so many blocks with the cells of those at their places behind their own
abbrev pub joined : ℕ → List TypedCells → List TypedCells → List TypedCells
joined (suc n) (block ∷ blocks) (other ∷ others) = with_cells block (block.cells ++ other.cells) ∷ joined n blocks others
joined n blocks others = blocks
