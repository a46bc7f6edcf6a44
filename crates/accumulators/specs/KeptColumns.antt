-- What all groups keep of one call, each at its place.
use Rattle.std.specs.Prelude.{◌<◌, ◌≤◌, ℕ, List, [], ◌∷◌, ◌++◌, drop, length, map, slice_index_or, slice_set, take}
use Rattle.sql_values.specs.declared.types.SqlType.{SqlType}
use Rattle.sql_values.specs.declared.value.Value.{Value}
use Rattle.sql_values.specs.declared.relational.Call.{Call}
use Rattle.relation_laws.specs.Aggregates.{most_group_rows}
use Rattle.relation_laws.specs.Partials.{call_width}
use Rattle.accumulators.specs.Columns.{columns_of, kind_in}
use Rattle.accumulators.specs.Kept.{Kept, added_row, merged_kept}
use Rattle.accumulators.specs.Limits.{CanMerge, CanTake, IsKept}

-- the call's columns of each group's partial row
pub record KeptColumn : Type 0 where
  pub call : Call
  pub kind : SqlType
  pub kept : List (List Value)

-- what is kept of no group
abbrev pub no_kept : List SqlType → Call → KeptColumn
no_kept types call = record { call = call; kind = kind_in types call; kept = [] }

-- what the group at a place keeps
abbrev pub kept_at : ℕ → KeptColumn → Kept
kept_at place column = record { call = column.call; kind = column.kind; columns = slice_index_or column.kept place [] }

-- and of all calls
abbrev pub all_kept_at : ℕ → List KeptColumn → List Kept
all_kept_at place columns = map (kept_at place) columns

abbrev pub column_calls : List KeptColumn → List Call
column_calls columns = map (λ c. c.call) columns

abbrev pub column_kinds : List KeptColumn → List SqlType
column_kinds columns = map (λ c. c.kind) columns

-- of the first groups alone, so many
abbrev pub first_kept : ℕ → KeptColumn → KeptColumn
first_kept count column = record { call = column.call; kind = column.kind; kept = take count column.kept }

-- and behind them a group of no row
abbrev pub begun_behind : ℕ → KeptColumn → KeptColumn
begun_behind count column = record { call = column.call; kind = column.kind; kept = take count column.kept ++ columns_of column.call [] ∷ [] }

-- with other columns at a place
abbrev pub with_kept : ℕ → List Value → KeptColumn → KeptColumn
with_kept place columns column = record { call = column.call; kind = column.kind; kept = slice_set column.kept place columns }

-- without what is kept at a place
abbrev pub but_kept : ℕ → KeptColumn → KeptColumn
but_kept place column = with_kept place [] column

-- with one more row of the group at a place
abbrev pub added_at : ℕ → List Value → KeptColumn → KeptColumn
added_at place row column = with_kept place (added_row row (kept_at place column)).columns column

-- with columns merged in there, from values that begin with them
abbrev pub merged_at : ℕ → List Value → KeptColumn → KeptColumn
merged_at place columns column = with_kept place (merged_kept (kept_at place column) columns).columns column

-- each with its columns merged in, where they stand one behind the other
abbrev pub merged_each_at : ℕ → List KeptColumn → List Value → List KeptColumn
merged_each_at place [] columns = []
merged_each_at place (column ∷ rest) columns = merged_at place columns column ∷ merged_each_at place rest (drop (call_width column.call) columns)

-- so many groups are kept, or more
abbrev pub IsLong : ℕ → KeptColumn → Type 0
IsLong count column = count ≤ length column.kept

-- the group at a place can take a row
pub record CanTakeAt (place : ℕ) (row : List Value) (column : KeptColumn) : Type 0 where
  pub within : place < length column.kept
  pub can : CanTake row (kept_at place column)

-- columns can be merged in there
pub record CanMergeAt (place : ℕ) (columns : List Value) (column : KeptColumn) : Type 0 where
  pub within : place < length column.kept
  pub can : CanMerge (kept_at place column) columns

-- and so for each call
abbrev pub CanMergeEachAt : ℕ → List KeptColumn → List Value → Type 0
CanMergeEachAt place [] columns = Unit {0}
CanMergeEachAt place (column ∷ rest) columns = CanMergeAt place columns column × CanMergeEachAt place rest (drop (call_width column.call) columns)

-- the group at a place has so many rows, which are not too many
pub record IsKeptAt (place rows : ℕ) (column : KeptColumn) : Type 0 where
  pub within : place < length column.kept
  pub few : rows ≤ most_group_rows
  pub kept : IsKept rows (kept_at place column)
