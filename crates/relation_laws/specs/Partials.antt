-- The partial row of a group, without its key: how many rows the group has, and then for each call the
-- columns from which its result can be found when more rows are known.
use Rattle.std.specs.Prelude.{ℕ, ◌+◌, ◌^◌, List, [], ◌∷◌, ◌++◌, length, drop, flat_map, replicate, sum_by, nat_le, nat_abs, if◌then◌else◌, pos, ◌+ℤ◌, Result, Ok}
use Rattle.sql_values.specs.declared.types.SqlType.{SqlType}
use Rattle.sql_values.specs.declared.value.Value.{Value}
use Rattle.sql_values.specs.declared.value.Value.TheVariants.{Null, Bigint, Decimal}
use Rattle.sql_values.specs.declared.fail.Fail.{Fail}
use Rattle.sql_values.specs.declared.order.Order.TheVariants.{Ascending, Descending}
use Rattle.sql_values.specs.declared.relational.Call.{Call}
use Rattle.sql_values.specs.declared.relational.Call.TheVariants.{CountAll, Count, Sum, Min, Max, Avg}
use Rattle.sql_values.specs.Cells.{cell}
use Rattle.sql_values.specs.Order.{number_in}
use Rattle.sql_functions.specs.Outcomes.{Outcome}
use Rattle.sql_functions.specs.CallTypes.{type_at}
use Rattle.relation_laws.specs.Aggregates.{all_values, average, count_of, earlier, first_by, most_group_rows, sum_value, total_of, values_in, within_rows}

-- the exact sum as a decimal, NULL where there are no values
abbrev pub partial_sum : List Value → Value
partial_sum [] = Null
partial_sum (v ∷ vs) = Decimal (total_of (v ∷ vs))

abbrev pub call_columns : List (List Value) → Call → List Value
call_columns rows CountAll = []
call_columns rows (Count column) = count_of (values_in column rows) ∷ []
call_columns rows (Sum column) = partial_sum (values_in column rows) ∷ []
call_columns rows (Min column) = first_by Ascending (values_in column rows) ∷ []
call_columns rows (Max column) = first_by Descending (values_in column rows) ∷ []
call_columns rows (Avg column) = partial_sum (values_in column rows) ∷ count_of (values_in column rows) ∷ []

abbrev pub call_width : Call → ℕ
call_width CountAll = 0
call_width (Count column) = 1
call_width (Sum column) = 1
call_width (Min column) = 1
call_width (Max column) = 1
call_width (Avg column) = 2

-- the row of a group with too many rows: it says no more than that
abbrev pub overfull : List Call → List Value
overfull calls = Decimal (pos (2 ^ 63)) ∷ replicate (sum_by call_width calls) Null

-- the row of a group of so many rows, with these columns where they are not too many
abbrev pub with_rows : List Call → ℕ → List Value → List Value
with_rows calls rows columns = if nat_le rows most_group_rows then Decimal (pos rows) ∷ columns else overfull calls

abbrev pub partial_of : List Call → List (List Value) → List Value
partial_of calls rows = with_rows calls (length rows) (flat_map (call_columns rows) calls)

-- how many rows a partial row stands for, at most 2^63
abbrev pub rows_in : List Value → ℕ
rows_in partial = nat_abs (number_in (cell partial 0))

abbrev pub added_counts : Value → Value → Value
added_counts v w = Bigint (number_in v +ℤ number_in w)

-- the sum of two partial sums, of which NULL is none
abbrev pub added_sums : Value → Value → Value
added_sums Null w = w
added_sums v Null = v
added_sums v w = Decimal (number_in v +ℤ number_in w)

-- one call's columns, from rows that begin with them
abbrev pub merged_call : Call → List Value → List Value → List Value
merged_call CountAll p q = []
merged_call (Count column) p q = added_counts (cell p 0) (cell q 0) ∷ []
merged_call (Sum column) p q = added_sums (cell p 0) (cell q 0) ∷ []
merged_call (Min column) p q = earlier Ascending (cell p 0) (cell q 0) ∷ []
merged_call (Max column) p q = earlier Descending (cell p 0) (cell q 0) ∷ []
merged_call (Avg column) p q = added_sums (cell p 0) (cell q 0) ∷ added_counts (cell p 1) (cell q 1) ∷ []

abbrev pub merged_calls : List Call → List Value → List Value → List Value
merged_calls [] p q = []
merged_calls (call ∷ calls) p q = merged_call call p q ++ merged_calls calls (drop (call_width call) p) (drop (call_width call) q)

-- the partial row of the rows of both
abbrev pub merged : List Call → List Value → List Value → List Value
merged calls p q = with_rows calls (rows_in p + rows_in q) (merged_calls calls (drop 1 p) (drop 1 q))

-- a sum, and an average, of values of which there are none where the sum is NULL
abbrev pub sum_from : SqlType → Value → Outcome
sum_from kind Null = Ok Null
sum_from kind sum = sum_value kind (number_in sum)

abbrev pub average_from : Value → Value → Outcome
average_from Null count = Ok Null
average_from sum count = Ok (Decimal (average (number_in sum) (nat_abs (number_in count))))

-- one call's result, from a row that begins with its columns
abbrev pub call_from : List SqlType → ℕ → List Value → Call → Outcome
call_from types rows columns CountAll = Ok (Bigint (pos rows))
call_from types rows columns (Count column) = Ok (cell columns 0)
call_from types rows columns (Sum column) = sum_from (type_at types column) (cell columns 0)
call_from types rows columns (Min column) = Ok (cell columns 0)
call_from types rows columns (Max column) = Ok (cell columns 0)
call_from types rows columns (Avg column) = average_from (cell columns 0) (cell columns 1)

abbrev pub calls_from : List SqlType → ℕ → List Value → List Call → List Outcome
calls_from types rows columns [] = []
calls_from types rows columns (call ∷ calls) =
    within_rows rows (call_from types rows columns call) ∷ calls_from types rows (drop (call_width call) columns) calls

-- the results that a group's partial row gives
abbrev pub results_from : List SqlType → List Call → List Value → Result (List Value) Fail
results_from types calls partial = all_values (calls_from types (rows_in partial) (drop 1 partial) calls)
