-- What a group keeps of one call: its columns of the group's partial row.
use Rattle.std.specs.Prelude.{ℕ, List, [], ◌∷◌, map, drop, flat_map, pos, Ok}
use Rattle.sql_values.specs.declared.types.SqlType.{SqlType}
use Rattle.sql_values.specs.declared.value.Value.{Value}
use Rattle.sql_values.specs.declared.value.Value.TheVariants.{Bigint}
use Rattle.sql_values.specs.declared.relational.Call.{Call}
use Rattle.sql_values.specs.declared.relational.Call.TheVariants.{CountAll, Count, Sum, Min, Max, Avg}
use Rattle.sql_values.specs.Cells.{cell}
use Rattle.sql_functions.specs.Outcomes.{Outcome}
use Rattle.relation_laws.specs.Aggregates.{within_rows}
use Rattle.relation_laws.specs.Partials.{average_from, call_width, merged_call, sum_from}
use Rattle.accumulators.specs.Columns.{column_of, columns_of, kind_in}

pub record Kept : Type 0 where
  pub call : Call
  pub kind : SqlType
  pub columns : List Value

-- what is kept of no row
abbrev pub kept_of_none : List SqlType → Call → Kept
kept_of_none types call = record { call = call; kind = kind_in types call; columns = columns_of call [] }

-- with columns merged in, from values that begin with them
abbrev pub merged_kept : Kept → List Value → Kept
merged_kept kept columns = record { call = kept.call; kind = kept.kind; columns = merged_call kept.call kept.columns columns }

-- with one more cell
abbrev pub added_cell : Kept → Value → Kept
added_cell kept v = merged_kept kept (columns_of kept.call (v ∷ []))

-- with one more row
abbrev pub added_row : List Value → Kept → Kept
added_row row kept = added_cell kept (cell row (column_of kept.call))

-- each with its columns merged in, where they stand one behind the other
abbrev pub merged_each : List Kept → List Value → List Kept
merged_each [] columns = []
merged_each (kept ∷ rest) columns = merged_kept kept columns ∷ merged_each rest (drop (call_width kept.call) columns)

abbrev pub calls_of : List Kept → List Call
calls_of kept = map (λ k. k.call) kept

abbrev pub kinds_of : List Kept → List SqlType
kinds_of kept = map (λ k. k.kind) kept

abbrev pub all_columns : List Kept → List Value
all_columns kept = flat_map (λ k. k.columns) kept

-- one call's result, from values that begin with its columns
abbrev pub outcome_from : SqlType → ℕ → List Value → Call → Outcome
outcome_from kind rows columns CountAll = Ok (Bigint (pos rows))
outcome_from kind rows columns (Count column) = Ok (cell columns 0)
outcome_from kind rows columns (Sum column) = sum_from kind (cell columns 0)
outcome_from kind rows columns (Min column) = Ok (cell columns 0)
outcome_from kind rows columns (Max column) = Ok (cell columns 0)
outcome_from kind rows columns (Avg column) = average_from (cell columns 0) (cell columns 1)

-- the result in a group of so many rows
abbrev pub outcome_in : ℕ → Kept → Outcome
outcome_in rows kept = within_rows rows (outcome_from kept.kind rows kept.columns kept.call)
