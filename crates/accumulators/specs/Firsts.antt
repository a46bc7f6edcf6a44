-- The values that become a call's least or greatest with one more row.
use Rattle.std.specs.Prelude.{◌≡◌, ℕ, ◌+◌, List, [], ◌∷◌, ◌++◌, length, take, flat_map, if◌then◌else◌}
use Rattle.std.specs.Ordering.{is_le}
use Rattle.sql_values.specs.declared.value.Value.{Value}
use Rattle.sql_values.specs.declared.order.Order.{Order}
use Rattle.sql_values.specs.declared.order.Order.TheVariants.{Ascending, Descending}
use Rattle.sql_values.specs.declared.relational.Call.{Call}
use Rattle.sql_values.specs.declared.relational.Call.TheVariants.{CountAll, Count, Sum, Min, Max, Avg}
use Rattle.sql_values.specs.Cells.{cell}
use Rattle.sql_values.specs.Order.{cell_cmp}
use Rattle.relation_laws.specs.Partials.{call_width}
use Rattle.accumulators.specs.Columns.{column_of}
use Rattle.accumulators.specs.Kept.{Kept}

-- the cell, where it stands before what is held
abbrev pub first_over : Order → Value → Value → List Value
first_over order held v = if is_le (cell_cmp order held v) then [] else v ∷ []

-- the same for a call, of which these columns are kept
abbrev pub call_first : Call → List Value → Value → List Value
call_first CountAll columns v = []
call_first (Count column) columns v = []
call_first (Sum column) columns v = []
call_first (Min column) columns v = first_over Ascending (cell columns 0) v
call_first (Max column) columns v = first_over Descending (cell columns 0) v
call_first (Avg column) columns v = []

abbrev pub kept_first : Kept → Value → List Value
kept_first kept v = call_first kept.call kept.columns v

-- for all calls, with one more row
abbrev pub row_firsts : List Value → List Kept → List Value
row_firsts row kept = flat_map (λ k. kept_first k (cell row (column_of k.call))) kept

-- for all calls, with the columns that a row has from a place on
abbrev pub part_firsts : List Value → ℕ → List Kept → List Value
part_firsts row place [] = []
part_firsts row place (kept ∷ rest) = kept_first kept (cell row place) ++ part_firsts row (place + call_width kept.call) rest

-- all of the one are the first of the other
abbrev pub BeginWith : List Value → List Value → Type 0
BeginWith front all = take (length front) all ≡ front
