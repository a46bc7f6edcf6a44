-- What is kept of a call, from the numbers and values that stand for it in memory.
use Rattle.std.specs.Prelude.{ℕ, [], ◌∷◌, pos}
use Rattle.sql_values.specs.declared.types.SqlType.TheVariants.{Boolean}
use Rattle.sql_values.specs.declared.value.Value.TheVariants.{Bigint}
use Rattle.sql_values.specs.declared.relational.Call.TheVariants as call_is
use Rattle.accumulators.specs.declared.call_state.Held.{Held}
use Rattle.accumulators.specs.declared.call_state.Held.TheVariants.{CountAll, Count, Sum, Min, Max, Avg}
use Rattle.accumulators.specs.Columns.{sum_cell}
use Rattle.accumulators.specs.Kept.{Kept}

abbrev pub kept : Held → Kept
kept CountAll = record { call = call_is.CountAll; kind = Boolean; columns = [] }
kept (Count column count) = record { call = call_is.Count column; kind = Boolean; columns = Bigint (pos count) ∷ [] }
kept (Sum column kind sum) = record { call = call_is.Sum column; kind = kind; columns = sum_cell sum ∷ [] }
kept (Min column least) = record { call = call_is.Min column; kind = Boolean; columns = least ∷ [] }
kept (Max column most) = record { call = call_is.Max column; kind = Boolean; columns = most ∷ [] }
kept (Avg column kind sum count) = record { call = call_is.Avg column; kind = kind; columns = sum_cell sum ∷ Bigint (pos count) ∷ [] }

-- the count among it
abbrev pub count_held : Held → ℕ
count_held CountAll = 0
count_held (Count column count) = count
count_held (Sum column kind sum) = 0
count_held (Min column least) = 0
count_held (Max column most) = 0
count_held (Avg column kind sum count) = count
