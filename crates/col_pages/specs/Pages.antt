-- Pages and their builders, as they are seen.
use Rattle.std.specs.Prelude.{◌≡◌, ℕ, ◌≤◌, List, [], ◌∷◌, ◌++◌, length, map}
use Rattle.sql_values.specs.declared.types.SqlType.{SqlType}
use Rattle.sql_values.specs.declared.value.Value.{Value}
use Rattle.sql_values.specs.Cells.{cell}
use Rattle.sql_values.specs.Blocks.{TypedCells}
use Rattle.sql_values.specs.ColumnRows.{TypedRows}

-- a page is its types and its rows
pub record TypedPage : Type 0 where
  pub types : List SqlType
  pub rows : List (List Value)

-- the most rows of a page
abbrev pub most_rows : ℕ
most_rows = 8192

-- the rows of pages, in order
abbrev pub rows_in : List TypedPage → List (List Value)
rows_in [] = []
rows_in (page ∷ pages) = page.rows ++ rows_in pages

abbrev pub page_of : TypedRows → TypedPage
page_of held = record { types = held.types; rows = held.rows }

-- no row is begun, and there are not too many
pub record IsPage (held : TypedRows) : Type 0 where
  pub whole : held.begun ≡ []
  pub few : length held.rows ≤ most_rows

-- rows, the first cells of one more, and how many rows there is room for
pub record PageInMaking : Type 0 where
  pub types : List SqlType
  pub rows : List (List Value)
  pub begun : List Value
  pub room : ℕ

abbrev pub in_making : TypedRows → ℕ → PageInMaking
in_making held room = record {
  types = held.types;
  rows = held.rows;
  begun = held.begun;
  room = room;
}

pub record HasRoom (held : TypedRows) (room : ℕ) : Type 0 where
  pub within : length held.rows ≤ room
  pub few : room ≤ most_rows

-- the columns of some rows, each of its type
abbrev pub blocks_of : List SqlType → List ℕ → List (List Value) → List TypedCells
blocks_of (kind ∷ kinds) (column ∷ columns) rows =
    record { kind = kind; cells = map (λ row. cell row column) rows } ∷ blocks_of kinds columns rows
blocks_of kinds columns rows = []
