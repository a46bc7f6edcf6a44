-- The results of aggregate calls over the rows of one group as a whole. NULL is skipped by each call
-- that names a column. The types of the rows come first.
use Rattle.std.specs.Prelude.{ℕ, ◌+◌, ◌-◌, ◌^◌, List, [], ◌∷◌, length, map, filter, nat_le, if◌then◌else◌, ℤ, pos, negsuc, ◌+ℤ◌, neg_ℤ, Result, Ok, Err}
use Rattle.std.specs.Ordering.{is_le}
use Rattle.decimals.specs.Arithmetic.{rounded_quotient}
use Rattle.scalar_texts.specs.Numbers.{has_64_bits}
use Rattle.sql_values.specs.declared.types.SqlType.{SqlType}
use Rattle.sql_values.specs.declared.types.SqlType.TheVariants as type
use Rattle.sql_values.specs.declared.value.Value.{Value}
use Rattle.sql_values.specs.declared.value.Value.TheVariants.{Null, Bigint, Decimal}
use Rattle.sql_values.specs.declared.fail.Fail.{Fail}
use Rattle.sql_values.specs.declared.fail.Fail.TheVariants.{OutOfRange}
use Rattle.sql_values.specs.declared.order.Order.{Order}
use Rattle.sql_values.specs.declared.order.Order.TheVariants.{Ascending, Descending}
use Rattle.sql_values.specs.declared.relational.Call.{Call}
use Rattle.sql_values.specs.declared.relational.Call.TheVariants.{CountAll, Count, Sum, Min, Max, Avg}
use Rattle.sql_values.specs.Cells.{cell}
use Rattle.sql_values.specs.Order.{cell_cmp, number_in}
use Rattle.sql_functions.specs.Outcomes.{Outcome}
use Rattle.sql_functions.specs.CallTypes.{type_at}
use Rattle.relation_laws.specs.Equality.{is_present}

-- the values of a column that are not NULL
abbrev pub values_in : ℕ → List (List Value) → List Value
values_in column rows = filter is_present (map (λ row. cell row column) rows)

-- the exact sum of numbers
abbrev pub total_of : List Value → ℤ
total_of [] = pos 0
total_of (v ∷ vs) = number_in v +ℤ total_of vs

abbrev pub count_of : List Value → Value
count_of vs = Bigint (pos (length vs))

-- the one that stands first; with NULL as the last
abbrev pub earlier : Order → Value → Value → Value
earlier order v w = if is_le (cell_cmp order v w) then v else w

-- the least value for the ascending order, the greatest for the descending one
abbrev pub first_by : Order → List Value → Value
first_by order [] = Null
first_by order (v ∷ vs) = earlier order v (first_by order vs)

-- NULL where there are no values
abbrev pub of_some : (List Value → Outcome) → List Value → Outcome
of_some outcome [] = Ok Null
of_some outcome (v ∷ vs) = outcome (v ∷ vs)

-- a sum of bigints is within 64 bits; one of decimals always has the digits of its type
abbrev pub sum_value : SqlType → ℤ → Outcome
sum_value (type.Decimal p s) total = Ok (Decimal total)
sum_value kind total = if has_64_bits total then Ok (Bigint total) else Err OutOfRange

-- a total divided by a count, where a half is rounded away from zero
abbrev pub average : ℤ → ℕ → ℤ
average (pos n) count = pos (rounded_quotient count n)
average (negsuc n) count = neg_ℤ (pos (rounded_quotient count (n + 1)))

abbrev pub sum_of : SqlType → List Value → Outcome
sum_of kind = of_some (λ vs. sum_value kind (total_of vs))

abbrev pub average_of : List Value → Outcome
average_of = of_some (λ vs. Ok (Decimal (average (total_of vs) (length vs))))

-- the most rows that a group may have
abbrev pub most_group_rows : ℕ
most_group_rows = 2 ^ 63 - 1

-- the outcome for a group of so many rows
abbrev pub within_rows : ℕ → Outcome → Outcome
within_rows rows outcome = if nat_le rows most_group_rows then outcome else Err OutOfRange

abbrev pub call_result : List SqlType → List (List Value) → Call → Outcome
call_result types rows CountAll = Ok (Bigint (pos (length rows)))
call_result types rows (Count column) = Ok (count_of (values_in column rows))
call_result types rows (Sum column) = sum_of (type_at types column) (values_in column rows)
call_result types rows (Min column) = Ok (first_by Ascending (values_in column rows))
call_result types rows (Max column) = Ok (first_by Descending (values_in column rows))
call_result types rows (Avg column) = average_of (values_in column rows)

abbrev pub with_first : Value → Result (List Value) Fail → Result (List Value) Fail
with_first v (Ok vs) = Ok (v ∷ vs)
with_first v (Err kind) = Err kind

-- the values, or the first failure
abbrev pub all_values : List Outcome → Result (List Value) Fail
all_values [] = Ok []
all_values (Err kind ∷ os) = Err kind
all_values (Ok v ∷ os) = with_first v (all_values os)

abbrev pub aggregates_of : List SqlType → List Call → List (List Value) → Result (List Value) Fail
aggregates_of types calls rows = all_values (map (λ call. within_rows (length rows) (call_result types rows call)) calls)
