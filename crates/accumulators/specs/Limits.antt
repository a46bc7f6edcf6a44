-- Which cells a group can take, and which rows are partial rows: what bounds the sums and counts.
use Rattle.std.specs.Prelude.{◌≡◌, ℕ, ◌+◌, ◌-◌, ◌*◌, ◌^◌, ◌≤◌, List, [], ◌∷◌, drop, take, length, Bool, true, false, ◌&&◌, nat_le, ◌==◌, nat_abs, ℤ, pos, int_le, Option, Some, None, if◌then◌else◌, IsTrue}
use Rattle.std.specs.List.{list_all}
use Rattle.sql_values.specs.declared.types.SqlType.{SqlType}
use Rattle.sql_values.specs.declared.types.SqlType.TheVariants as type
use Rattle.sql_values.specs.declared.value.Value.{Value}
use Rattle.sql_values.specs.declared.value.Value.TheVariants.{Null, Bigint, Decimal}
use Rattle.sql_values.specs.declared.relational.Call.{Call}
use Rattle.sql_values.specs.declared.relational.Call.TheVariants.{CountAll, Count, Sum, Min, Max, Avg}
use Rattle.sql_values.specs.Cells.{cell}
use Rattle.sql_values.specs.Order.{number_in}
use Rattle.sql_functions.specs.CallTypes.{is_bigint, is_decimal, type_at}
use Rattle.sql_functions.specs.Truth.{is_null}
use Rattle.relation_laws.specs.Aggregates.{most_group_rows}
use Rattle.relation_laws.specs.Partials.{call_width, rows_in}
use Rattle.accumulators.specs.Columns.{column_of, columns_of, count_in, summand}
use Rattle.accumulators.specs.Kept.{Kept}

-- the greatest magnitude of a number of a type
abbrev pub greatest : SqlType → ℕ
greatest (type.Decimal p s) = 10 ^ p - 1
greatest kind = 2 ^ 63

-- bigints, and decimals of so few digits that sums stay within 38
abbrev pub is_short : SqlType → Bool
is_short (type.Decimal p s) = nat_le p 18
is_short kind = is_bigint kind

-- whether a call can be made over numbers of the type: an average over decimals alone
abbrev pub can_add : SqlType → Call → Bool
can_add kind (Sum column) = is_short kind
can_add kind (Avg column) = is_decimal kind && is_short kind
can_add kind call = true

-- whether the calls can be made over rows of these types
abbrev pub are_allowed : List SqlType → List Call → Bool
are_allowed types calls = list_all (λ call. can_add (type_at types (column_of call)) call) calls

-- whether a cell has a number of the type, or is NULL
abbrev pub is_number_of : SqlType → Value → Bool
is_number_of kind v = nat_le (nat_abs (number_in v)) (greatest kind)

-- whether a call can take a cell
abbrev pub takes_cell : SqlType → Call → Value → Bool
takes_cell kind (Sum column) v = is_number_of kind v
takes_cell kind (Avg column) v = is_number_of kind v
takes_cell kind call v = true

-- whether the calls can take a row, where the numbers that each adds have its type
abbrev pub takes_row : List Call → List SqlType → List Value → Bool
takes_row [] kinds row = true
takes_row (call ∷ calls) [] row = true
takes_row (call ∷ calls) (kind ∷ kinds) row = takes_cell kind call (cell row (column_of call)) && takes_row calls kinds row

abbrev pub is_count : ℕ → Value → Bool
is_count most (Bigint n) = int_le (pos 0) n && nat_le (nat_abs n) most
is_count most v = false

-- NULL, or a sum of at most this magnitude
abbrev pub is_sum : ℕ → Value → Bool
is_sum most Null = true
is_sum most (Decimal n) = nat_le (nat_abs n) most
is_sum most v = false

-- no sum exactly where there is no value, else one of so many numbers
abbrev pub counts_sum : ℕ → Option ℤ → ℕ → Bool
counts_sum most None count = count == 0
counts_sum most (Some n) count = nat_le 1 count && nat_le (nat_abs n) (count * most)

-- a sum beside the count of its values
abbrev pub are_sum_and_count : ℕ → ℕ → Value → Value → Bool
are_sum_and_count rows most sum count = is_count rows count && is_sum (rows * most) sum && counts_sum most (summand sum) (count_in count)

-- whether values begin with columns of the call, of a group of so many rows
abbrev pub are_columns : ℕ → SqlType → Call → List Value → Bool
are_columns rows kind CountAll columns = true
are_columns rows kind (Count column) columns = is_count rows (cell columns 0)
are_columns rows kind (Sum column) columns = is_sum (rows * greatest kind) (cell columns 0)
are_columns rows kind (Min column) columns = true
are_columns rows kind (Max column) columns = true
are_columns rows kind (Avg column) columns = are_sum_and_count rows (greatest kind) (cell columns 0) (cell columns 1)

-- the same of all calls, whose columns stand one behind the other
abbrev pub are_all_columns : ℕ → List Call → List SqlType → List Value → Bool
are_all_columns rows [] kinds columns = true
are_all_columns rows (call ∷ calls) [] columns = true
are_all_columns rows (call ∷ calls) (kind ∷ kinds) columns = are_columns rows kind call columns && are_all_columns rows calls kinds (drop (call_width call) columns)

-- of a group with too many rows the columns of the calls are NULL
abbrev pub are_null : List Call → List Value → Bool
are_null [] columns = true
are_null (call ∷ calls) columns = list_all is_null (take (call_width call) columns) && are_null calls (drop (call_width call) columns)

-- the number of rows, up to one more than a group may have
abbrev pub is_row_count : Value → Bool
is_row_count (Decimal rows) = int_le (pos 0) rows && nat_le (nat_abs rows) (2 ^ 63)
is_row_count v = false

-- whether a row of the layout's types is a partial row
abbrev pub is_partial : List Call → List SqlType → List Value → Bool
is_partial calls kinds row =
    is_row_count (cell row 0)
    && (if nat_le (rows_in row) most_group_rows then are_all_columns (rows_in row) calls kinds (drop 1 row) else are_null calls (drop 1 row))

-- what is kept of a call is of at most so many rows
pub record IsKept (rows : ℕ) (kept : Kept) : Type 0 where
  pub width : length kept.columns ≡ call_width kept.call
  pub within : IsTrue (are_columns rows kept.kind kept.call kept.columns)

-- values that begin with columns of the call can be merged in
pub record CanMerge (kept : Kept) (columns : List Value) : Type 0 where
  pub own : ℕ
  pub others : ℕ
  pub few : own + others ≤ most_group_rows
  pub is_kept : IsKept own kept
  pub is_merged : IsTrue (are_columns others kept.kind kept.call columns)

-- and so for each call
abbrev pub CanMergeEach : List Kept → List Value → Type 0
CanMergeEach [] columns = Unit {0}
CanMergeEach (kept ∷ rest) columns = CanMerge kept columns × CanMergeEach rest (drop (call_width kept.call) columns)

-- cells of a row can be added
abbrev pub CanAdd : List Value → Kept → Type 0
CanAdd row kept = CanMerge kept (columns_of kept.call (cell row (column_of kept.call) ∷ []))

-- and so where the row's cell has a number of the type
abbrev pub CanTake : List Value → Kept → Type 0
CanTake row kept = IsTrue (takes_cell kept.kind kept.call (cell row (column_of kept.call))) → CanAdd row kept
