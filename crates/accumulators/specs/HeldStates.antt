-- The columns of one group, from the state that stands for them in memory.
use Rattle.std.specs.Prelude.{ℕ, ◌+◌, ◌<◌, ◌≤◌, ◌^◌, List, [], ◌∷◌, ℤ, pos, Option, None}
use Rattle.sql_values.specs.declared.value.Value.{Value}
use Rattle.sql_values.specs.declared.value.Value.TheVariants.{Bigint}
use Rattle.accumulators.specs.declared.averages.Average.{Average}
use Rattle.sql_values.specs.Cells.{cell}
use Rattle.relation_laws.specs.Aggregates.{most_group_rows}
use Rattle.relation_laws.specs.Partials.{added_counts, added_sums}
use Rattle.accumulators.specs.Columns.{magnitude, sum_cell}

abbrev pub count_columns : ℕ → List Value
count_columns count = Bigint (pos count) ∷ []

abbrev pub sum_columns : Option ℤ → List Value
sum_columns sum = sum_cell sum ∷ []

abbrev pub value_columns : Value → List Value
value_columns v = v ∷ []

abbrev pub average_columns : Average → List Value
average_columns average = sum_cell average.sum ∷ Bigint (pos average.count) ∷ []

-- of no number
abbrev pub no_average : Average
no_average = record { sum = None; count = 0 }

-- with a sum and its count added
abbrev pub added_average : List Value → Value → Value → List Value
added_average columns sum count = added_sums (cell columns 0) sum ∷ added_counts (cell columns 1) count ∷ []

-- there is room for a number and its count
abbrev pub HasRoom : Average → Option ℤ → ℕ → Type 0
HasRoom average number count = (magnitude average.sum + magnitude number < 2 ^ 127) × (average.count + count ≤ most_group_rows)
