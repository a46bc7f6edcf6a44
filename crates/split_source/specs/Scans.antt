-- A scan, as it is seen, and the rows that it gave.
use Rattle.std.specs.Prelude.{◌≡◌, ℕ, ◌-◌, ◌<◌, ◌≤◌, ◌++◌, true, List, map, take, length}
use Rattle.std.specs.Prelude.{slice_index_or, All, IsTrue}
use Rattle.sql_values.specs.ColumnRows.{fits_row}
use Rattle.sql_values.specs.declared.types.SqlType.{SqlType}
use Rattle.sql_values.specs.declared.types.SqlType.TheVariants.{Boolean}
use Rattle.sql_values.specs.declared.types.Column.{Column}
use Rattle.sql_values.specs.declared.value.Value.{Value}
use Rattle.sql_values.specs.Cells.{cut}
use Rattle.split_source.specs.Seats.{SeatState}
use Rattle.split_source.specs.Splits.{rows_of_splits}

-- the types of some columns of a table
abbrev pub types_at : List Column → List ℕ → List SqlType
types_at all columns = map (λ c. slice_index_or (map (λ k. k.kind) all) c Boolean) columns

-- the table's rows, the columns that are read and their types, the sizes of splits and pages, the seat,
-- and how many rows of its last split are still to be given
pub record ScanState : Type 0 where
  pub rows : List (List Value)
  pub columns : List ℕ
  pub types : List SqlType
  pub size : ℕ
  pub page : ℕ
  pub seat : SeatState
  pub left : ℕ

-- the rows of the splits that the seat drew, in the order in which it drew them, cut to the columns
abbrev pub claimed : ScanState → List (List Value)
claimed s = map (cut s.columns) (rows_of_splits s.size s.rows s.seat.numbers)

-- those of them that were given
abbrev pub given : ScanState → List (List Value)
given s = take (length (claimed s) - s.left) (claimed s)

-- each row has the types of these columns
abbrev pub AreReadable : List Column → List ℕ → List (List Value) → Type 0
AreReadable all columns rows = All (λ row. IsTrue (fits_row (types_at all columns) (cut columns row))) rows

-- a page of these rows came next
abbrev pub GaveNext : ScanState → List (List Value) → ScanState → Type 0
GaveNext before rows after = (given after ≡ given before ++ rows) × (0 < length rows) × (length rows ≤ before.page)

-- nothing is left, and the seat met the end
abbrev pub HasGivenAll : ScanState → ScanState → Type 0
HasGivenAll before after = (after.seat.is_ended ≡ true) × (after.left ≡ 0) × (given after ≡ given before)
