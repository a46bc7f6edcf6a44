-- The columns of one call, as a function of the cells that came.
use Rattle.std.specs.Prelude.{ℕ, ◌<◌, ◌^◌, List, [], ◌∷◌, filter, ℤ, ◌+ℤ◌, nat_abs, Option, Some, None}
use Rattle.sql_values.specs.declared.types.SqlType.{SqlType}
use Rattle.sql_values.specs.declared.types.SqlType.TheVariants.{Boolean}
use Rattle.sql_values.specs.declared.value.Value.{Value}
use Rattle.sql_values.specs.declared.value.Value.TheVariants.{Null, Bigint, Decimal}
use Rattle.sql_values.specs.declared.order.Order.TheVariants.{Ascending, Descending}
use Rattle.sql_values.specs.declared.relational.Call.{Call}
use Rattle.sql_values.specs.declared.relational.Call.TheVariants.{CountAll, Count, Sum, Min, Max, Avg}
use Rattle.sql_values.specs.Order.{number_in}
use Rattle.sql_functions.specs.CallTypes.{type_at}
use Rattle.relation_laws.specs.Aggregates.{count_of, first_by}
use Rattle.relation_laws.specs.Equality.{is_present}
use Rattle.relation_laws.specs.Partials.{partial_sum}

-- the column that a call names; one that names none is seen as reading the first
abbrev pub column_of : Call → ℕ
column_of CountAll = 0
column_of (Count column) = column
column_of (Sum column) = column
column_of (Min column) = column
column_of (Max column) = column
column_of (Avg column) = column

-- the type of the numbers that a call adds up, boolean where it adds none
abbrev pub kind_in : List SqlType → Call → SqlType
kind_in types CountAll = Boolean
kind_in types (Count column) = Boolean
kind_in types (Sum column) = type_at types column
kind_in types (Min column) = Boolean
kind_in types (Max column) = Boolean
kind_in types (Avg column) = type_at types column

abbrev pub columns_of : Call → List Value → List Value
columns_of CountAll cells = []
columns_of (Count column) cells = count_of (filter is_present cells) ∷ []
columns_of (Sum column) cells = partial_sum (filter is_present cells) ∷ []
columns_of (Min column) cells = first_by Ascending (filter is_present cells) ∷ []
columns_of (Max column) cells = first_by Descending (filter is_present cells) ∷ []
columns_of (Avg column) cells = partial_sum (filter is_present cells) ∷ count_of (filter is_present cells) ∷ []

-- the number that a cell adds to a sum: none for NULL
abbrev pub summand : Value → Option ℤ
summand Null = None
summand v = Some (number_in v)

-- a sum, of which there is none where nothing was added
abbrev pub sum_cell : Option ℤ → Value
sum_cell None = Null
sum_cell (Some n) = Decimal n

abbrev pub added : Option ℤ → Option ℤ → Option ℤ
added None more = more
added (Some n) None = Some n
added (Some n) (Some m) = Some (n +ℤ m)

abbrev pub magnitude : Option ℤ → ℕ
magnitude None = 0
magnitude (Some n) = nat_abs n

-- the sum and the count have an average, if there is a sum
abbrev pub HasAverage : Option ℤ → ℕ → Type 0
HasAverage None count = Unit {0}
HasAverage (Some n) count = (0 < count) × (nat_abs n < 2 ^ 126)

-- the count that a value is, if it is one
abbrev pub count_in : Value → ℕ
count_in (Bigint n) = nat_abs n
count_in v = 0
