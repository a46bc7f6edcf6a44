-- Partial rows fit the types of their layout, and the results that come of them fit the types of the calls.
use Rattle.std.proofs.Common.{◌≡◌, ℕ, ◌+◌, List, [], ◌∷◌, ◌++◌, Bool, true, false, length, map, take, drop, refl, sym, subst, ◌∙◌, append_assoc}
use Rattle.std.specs.Prelude.{All, IfOk, IsTrue, filter, flat_map, if◌then◌else◌, nat_le, pos, replicate, sum_by, ◌&&◌}
use Rattle.std.specs.Ordering.{is_le}
use Rattle.std.proofs.lemmas.Bool.{and_from, and_parts}
use Rattle.std.proofs.lemmas.List.{length-append}
use Rattle.std.proofs.lemmas.List.Sums.{sum_by-cons}
use Rattle.std.proofs.lemmas.List.Elements.{All-cons, All-filter, All-head, All-map, All-nil, All-tail, All-weaker}
use Rattle.sql_values.specs.declared.types.SqlType.{SqlType}
use Rattle.sql_values.specs.declared.types.SqlType.TheVariants as type
use Rattle.sql_values.specs.declared.value.Value.{Value}
use Rattle.sql_values.specs.declared.value.Value.TheVariants.{Null, Decimal}
use Rattle.sql_values.specs.declared.order.Order.{Order}
use Rattle.sql_values.specs.declared.order.Order.TheVariants.{Ascending, Descending}
use Rattle.sql_values.specs.declared.relational.Call.{Call}
use Rattle.sql_values.specs.declared.relational.Call.TheVariants.{CountAll, Count, Sum, Min, Max, Avg}
use Rattle.sql_values.specs.Blocks.{fits}
use Rattle.sql_values.specs.Cells.{cell, cut}
use Rattle.sql_values.specs.ColumnRows.{fits_row}
use Rattle.sql_values.specs.Order.{cell_cmp, number_in}
use Rattle.sql_functions.specs.CallTypes.{is_decimal, type_at}
use Rattle.plan_trees.specs.TreeTypes.{call_kind, sum_kind}
use Rattle.relation_laws.specs.Aggregates.{all_values, earlier, most_group_rows, values_in, within_rows}
use Rattle.relation_laws.specs.Equality.{same_row}
use Rattle.relation_laws.specs.Groups.{group_of, grouped_row, keys_of}
use Rattle.relation_laws.specs.Partials.{added_sums, average_from, call_columns, call_from, call_width, calls_from, merged_call, merged_calls, overfull, partial_of, partial_sum, results_from, rows_in, sum_from, with_rows}
use Rattle.relation_laws.specs.Verdicts.{kept}
use Rattle.bag_laws.specs.Pieces.{all_merged, behind_key, finals_of, front_keys, partials_of}
use Rattle.accumulators.specs.Columns.{column_of}
use Rattle.accumulators.specs.Limits.{are_allowed, can_add, is_short}
use Rattle.col_pages.specs.Fits.{AllFit}
use Rattle.plan_trees.specs.Layouts.{call_layout, layout_types, sum_layout}
use Rattle.aggregation.proofs.FitLemmas.{Fits, RowFits, append-fits, distinct-all, few-fits, first-fits, grouped-fits, kept-fit, keys-fit, next-fits, null-fits, one-fits, sum_value-fits, values-fit}

-- the first columns, and those behind them
take-fits : (kinds types : List SqlType) (row : List Value) → RowFits (kinds ++ types) row → RowFits kinds (take (length kinds) row)
take-fits [] types row h = refl
take-fits (kind ∷ kinds) types [] h = cc
take-fits (kind ∷ kinds) types (v ∷ row) h =
    let parts = and_parts (fits kind v) (fits_row (kinds ++ types) row) h in
    and_from (fits kind v) (fits_row kinds (take (length kinds) row)) parts.0 (take-fits kinds types row parts.1)

drop-fits : (kinds types : List SqlType) (row : List Value) → RowFits (kinds ++ types) row → RowFits types (drop (length kinds) row)
drop-fits [] types row h = h
drop-fits (kind ∷ kinds) types [] h = cc
drop-fits (kind ∷ kinds) types (v ∷ row) h = drop-fits kinds types row (and_parts (fits kind v) (fits_row (kinds ++ types) row) h).1

cell-first : (kind : SqlType) (kinds : List SqlType) (row : List Value) → RowFits (kind ∷ kinds) row → Fits kind (cell row 0)
cell-first kind kinds [] h = cc
cell-first kind kinds (v ∷ row) h = (and_parts (fits kind v) (fits_row kinds row) h).0

cell-second : (kind next : SqlType) (kinds : List SqlType) (row : List Value) → RowFits (kind ∷ next ∷ kinds) row → Fits next (cell row 1)
cell-second kind next kinds [] h = cc
cell-second kind next kinds (v ∷ row) h = cell-first next kinds row (and_parts (fits kind v) (fits_row (next ∷ kinds) row) h).1

-- the columns of the calls
abbrev columns_types : List SqlType → List Call → List SqlType
columns_types types calls = flat_map (call_layout types) calls

layout-width : (types : List SqlType) (call : Call) → length (call_layout types call) ≡ call_width call
layout-width types CountAll = refl
layout-width types (Count column) = refl
layout-width types (Sum column) = refl
layout-width types (Min column) = refl
layout-width types (Max column) = refl
layout-width types (Avg column) = refl

columns-width : (types : List SqlType) (calls : List Call) → length (columns_types types calls) ≡ sum_by call_width calls
columns-width types [] = refl
columns-width types (call ∷ calls) =
    length-append (call_layout types call) (columns_types types calls) ∙ (λ i. layout-width types call i + columns-width types calls i)
    ∙ sym (sum_by-cons call_width call calls)

nulls-fit : (kinds : List SqlType) → RowFits kinds (replicate (length kinds) Null)
nulls-fit [] = refl
nulls-fit (kind ∷ kinds) = and_from (fits kind Null) (fits_row kinds (replicate (length kinds) Null)) (null-fits kind) (nulls-fit kinds)

abbrev part_types : List SqlType → List Call → List SqlType
part_types types calls = type.Decimal 38 0 ∷ columns_types types calls

row-fits : (types : List SqlType) (calls : List Call) (rows : ℕ) (columns : List Value) (few : Bool) → RowFits (columns_types types calls) columns
    → RowFits (part_types types calls) (if few then Decimal (pos rows) ∷ columns else overfull calls)
row-fits types calls rows columns true h = h
row-fits types calls rows columns false h =
    subst (λ (n : ℕ). RowFits (columns_types types calls) (replicate n Null)) (columns-width types calls) (nulls-fit (columns_types types calls))

rows-fit : (types : List SqlType) (calls : List Call) (rows : ℕ) (columns : List Value) → RowFits (columns_types types calls) columns → RowFits (part_types types calls) (with_rows calls rows columns)
rows-fit types calls rows columns h = row-fits types calls rows columns (nat_le rows most_group_rows) h

-- of the rows of a group
sum_of-fits : (kind : SqlType) (vs : List Value) → Fits (sum_layout kind) (partial_sum vs)
sum_of-fits kind [] = refl
sum_of-fits kind (v ∷ vs) = refl

columns-fit : (types : List SqlType) (rows : List (List Value)) (call : Call) → AllFit types rows → RowFits (call_layout types call) (call_columns rows call)
columns-fit types rows CountAll fit = refl
columns-fit types rows (Count column) fit = refl
columns-fit types rows (Sum column) fit = and_from (fits (sum_layout (type_at types column)) (partial_sum (values_in column rows))) true (sum_of-fits (type_at types column) (values_in column rows)) refl
columns-fit types rows (Min column) fit =
    and_from (fits (type_at types column) (cell (call_columns rows (Min column)) 0)) true (first-fits (type_at types column) Ascending (values_in column rows) (values-fit types column rows fit)) refl
columns-fit types rows (Max column) fit =
    and_from (fits (type_at types column) (cell (call_columns rows (Max column)) 0)) true (first-fits (type_at types column) Descending (values_in column rows) (values-fit types column rows fit)) refl
columns-fit types rows (Avg column) fit = and_from (fits (sum_layout (type_at types column)) (partial_sum (values_in column rows))) true (sum_of-fits (type_at types column) (values_in column rows)) refl

all_columns-fit : (types : List SqlType) (rows : List (List Value)) (calls : List Call) → AllFit types rows → RowFits (columns_types types calls) (flat_map (call_columns rows) calls)
all_columns-fit types rows [] fit = refl
all_columns-fit types rows (call ∷ calls) fit =
    append-fits (call_layout types call) (columns_types types calls) (call_columns rows call) (flat_map (call_columns rows) calls) (columns-fit types rows call fit) (all_columns-fit types rows calls fit)

partial-fits : (types : List SqlType) (calls : List Call) (rows : List (List Value)) → AllFit types rows → RowFits (part_types types calls) (partial_of calls rows)
partial-fits types calls rows fit = rows-fit types calls (length rows) (flat_map (call_columns rows) calls) (all_columns-fit types rows calls fit)

layout-is : (kinds types : List SqlType) (calls : List Call) → layout_types kinds types calls ≡ kinds ++ part_types types calls
layout-is kinds types calls = append_assoc kinds (type.Decimal 38 0 ∷ []) (columns_types types calls)

keyed-fit : (kinds types : List SqlType) (said : List Value → List Value) (keys : List (List Value)) → AllFit kinds keys → ((key : List Value) → RowFits types (said key))
    → AllFit (kinds ++ types) (map (λ key. key ++ said key) keys)
keyed-fit kinds types said [] h each = All-nil (RowFits (kinds ++ types))
keyed-fit kinds types said (key ∷ keys) h each =
    All-cons (RowFits (kinds ++ types)) (key ++ said key) (map (λ k. k ++ said k) keys) (append-fits kinds types key (said key) (All-head (RowFits kinds) key keys h) (each key))
    (keyed-fit kinds types said keys (All-tail (RowFits kinds) key keys h) each)

-- the keys and partial rows of rows that fit these types
pub partials-fit : (types : List SqlType) (columns : List ℕ) (calls : List Call) (rows : List (List Value)) → AllFit types rows
    → AllFit (layout_types (map (type_at types) columns) types calls) (partials_of columns calls rows)
partials-fit types columns calls rows fit =
    let kinds = map (type_at types) columns in
    subst (λ (ts : List SqlType). AllFit ts (partials_of columns calls rows)) (sym (layout-is kinds types calls))
    (keyed-fit kinds (part_types types calls) (λ key. partial_of calls (group_of columns rows key)) (keys_of columns rows) (keys-fit types columns rows fit)
    (λ key. partial-fits types calls (group_of columns rows key) (All-filter (λ row. same_row key (cut columns row)) (RowFits types) rows fit)))

-- of two partial rows
added-fits : (kind : SqlType) (v w : Value) → Fits (sum_layout kind) v → Fits (sum_layout kind) w → Fits (sum_layout kind) (added_sums v w)
added-fits kind Null w h k = k
added-fits kind v Null h k = h
added-fits kind v w h k = refl

earlier-fits : (kind : SqlType) (order : Order) (v w : Value) → Fits kind v → Fits kind w → Fits kind (earlier order v w)
earlier-fits kind order v w h k = one-fits kind (is_le (cell_cmp order v w)) v w h k

merged_call-fits : (types more : List SqlType) (call : Call) (p q : List Value) → RowFits (call_layout types call ++ more) p → RowFits (call_layout types call ++ more) q
    → RowFits (call_layout types call) (merged_call call p q)
merged_call-fits types more CountAll p q h k = refl
merged_call-fits types more (Count column) p q h k = refl
merged_call-fits types more (Sum column) p q h k =
    let kind = type_at types column in
    and_from (fits (sum_layout kind) (added_sums (cell p 0) (cell q 0))) true (added-fits kind (cell p 0) (cell q 0) (cell-first (sum_layout kind) more p h) (cell-first (sum_layout kind) more q k)) refl
merged_call-fits types more (Min column) p q h k =
    let kind = type_at types column in
    and_from (fits kind (earlier Ascending (cell p 0) (cell q 0))) true (earlier-fits kind Ascending (cell p 0) (cell q 0) (cell-first kind more p h) (cell-first kind more q k)) refl
merged_call-fits types more (Max column) p q h k =
    let kind = type_at types column in
    and_from (fits kind (earlier Descending (cell p 0) (cell q 0))) true (earlier-fits kind Descending (cell p 0) (cell q 0) (cell-first kind more p h) (cell-first kind more q k)) refl
merged_call-fits types more (Avg column) p q h k =
    let kind = type_at types column in
    let rest = type.Bigint ∷ more in
    and_from (fits (sum_layout kind) (added_sums (cell p 0) (cell q 0))) true (added-fits kind (cell p 0) (cell q 0) (cell-first (sum_layout kind) rest p h) (cell-first (sum_layout kind) rest q k)) refl

merged_calls-fit : (types : List SqlType) (calls : List Call) (p q : List Value) → RowFits (columns_types types calls) p → RowFits (columns_types types calls) q
    → RowFits (columns_types types calls) (merged_calls calls p q)
merged_calls-fit types [] p q h k = refl
merged_calls-fit types (call ∷ calls) p q h k =
    let more = columns_types types calls in
    let w : length (call_layout types call) ≡ call_width call = layout-width types call in
    append-fits (call_layout types call) more (merged_call call p q) (merged_calls calls (drop (call_width call) p) (drop (call_width call) q)) (merged_call-fits types more call p q h k)
    (merged_calls-fit types calls (drop (call_width call) p) (drop (call_width call) q)
    (subst (λ (n : ℕ). RowFits more (drop n p)) w (drop-fits (call_layout types call) more p h))
    (subst (λ (n : ℕ). RowFits more (drop n q)) w (drop-fits (call_layout types call) more q k)))

all_merged-fits : (types : List SqlType) (calls : List Call) (partials : List (List Value)) → All (RowFits (part_types types calls)) partials → RowFits (part_types types calls) (all_merged calls partials)
all_merged-fits types calls [] h = partial-fits types calls [] (All-nil (RowFits types))
all_merged-fits types calls (p ∷ partials) h =
    let q = all_merged calls partials in
    let columns = columns_types types calls in
    let one = type.Decimal 38 0 ∷ [] in
    rows-fit types calls (rows_in p + rows_in q) (merged_calls calls (drop 1 p) (drop 1 q))
    (merged_calls-fit types calls (drop 1 p) (drop 1 q) (drop-fits one columns p (All-head (RowFits (part_types types calls)) p partials h))
    (drop-fits one columns q (all_merged-fits types calls partials (All-tail (RowFits (part_types types calls)) p partials h))))

-- the results
from-sum : (kind : SqlType) (v : Value) → IfOk (sum_from kind v) (Fits (sum_kind kind))
from-sum kind Null = null-fits (sum_kind kind)
from-sum kind v = sum_value-fits kind (number_in v)

from-average : (kind : SqlType) (v w : Value) → IsTrue (is_decimal kind && is_short kind) → IfOk (average_from v w) (Fits kind)
from-average (type.Decimal p s) Null w h = refl
from-average (type.Decimal p s) v w h = refl
from-average type.Boolean v w h = cc
from-average type.Bigint v w h = cc
from-average type.Varchar v w h = cc
from-average type.Date v w h = cc

call-fits : (types more : List SqlType) (rows : ℕ) (columns : List Value) (call : Call) → IsTrue (can_add (type_at types (column_of call)) call) → RowFits (call_layout types call ++ more) columns
    → IfOk (call_from types rows columns call) (Fits (call_kind types call))
call-fits types more rows columns CountAll can h = refl
call-fits types more rows columns (Count column) can h = cell-first type.Bigint more columns h
call-fits types more rows columns (Sum column) can h = from-sum (type_at types column) (cell columns 0)
call-fits types more rows columns (Min column) can h = cell-first (type_at types column) more columns h
call-fits types more rows columns (Max column) can h = cell-first (type_at types column) more columns h
call-fits types more rows columns (Avg column) can h = from-average (type_at types column) (cell columns 0) (cell columns 1) can

calls-fit : (types : List SqlType) (rows : ℕ) (calls : List Call) (columns : List Value) → IsTrue (are_allowed types calls) → RowFits (columns_types types calls) columns
    → IfOk (all_values (calls_from types rows columns calls)) (RowFits (map (call_kind types) calls))
calls-fit types rows [] columns can h = refl
calls-fit types rows (call ∷ calls) columns can h =
    let more = columns_types types calls in
    let parts = and_parts (can_add (type_at types (column_of call)) call) (are_allowed types calls) can in
    let rest = subst (λ (n : ℕ). RowFits more (drop n columns)) (layout-width types call) (drop-fits (call_layout types call) more columns h) in
    next-fits (call_kind types call) (map (call_kind types) calls) (within_rows rows (call_from types rows columns call)) (calls_from types rows (drop (call_width call) columns) calls)
    (few-fits (call_kind types call) (nat_le rows most_group_rows) (call_from types rows columns call) (call-fits types more rows columns call parts.0 h))
    (calls-fit types rows calls (drop (call_width call) columns) parts.1 rest)

behind-fit : (kinds types : List SqlType) (rows : List (List Value)) (key : List Value) → AllFit (kinds ++ types) rows → All (RowFits types) (behind_key (length kinds) rows key)
behind-fit kinds types rows key h =
    let w = length kinds in
    let chosen = filter (λ row. same_row key (take w row)) rows in
    All-map (RowFits types) (drop w) chosen
    (All-weaker (RowFits (kinds ++ types)) (λ row. RowFits types (drop w row)) (λ row fit. drop-fits kinds types row fit) chosen (All-filter (λ row. same_row key (take w row)) (RowFits (kinds ++ types)) rows h))

fronts-fit : (kinds types : List SqlType) (rows : List (List Value)) → AllFit (kinds ++ types) rows → AllFit kinds (front_keys (length kinds) rows)
fronts-fit [] types rows h = All-cons (RowFits []) [] [] refl (All-nil (RowFits []))
fronts-fit (kind ∷ kinds) types rows h =
    let keys = kind ∷ kinds in
    distinct-all (RowFits keys) same_row (map (take (length keys)) rows)
    (All-map (RowFits keys) (take (length keys)) rows (All-weaker (RowFits (keys ++ types)) (λ row. RowFits keys (take (length keys) row)) (λ row fit. take-fits keys types row fit) rows h))

-- the groups of keys of these types, and of partial rows behind them
pub finals-fit : (kinds types : List SqlType) (calls : List Call) (rows : List (List Value)) → IsTrue (are_allowed types calls) → AllFit (layout_types kinds types calls) rows
    → AllFit (kinds ++ map (call_kind types) calls) (flat_map kept (finals_of types (length kinds) calls rows))
finals-fit kinds types calls rows can fit =
    let results = map (call_kind types) calls in
    let w = length kinds in
    let parts = part_types types calls in
    let whole : AllFit (kinds ++ parts) rows = subst (λ (ts : List SqlType). AllFit ts rows) (layout-is kinds types calls) fit in
    kept-fit (kinds ++ results) kinds (λ key. grouped_row key (results_from types calls (all_merged calls (behind_key w rows key)))) (front_keys w rows) (fronts-fit kinds parts rows whole)
    (λ key h.
    let partial = all_merged calls (behind_key w rows key) in
    grouped-fits kinds results key (results_from types calls partial) h
    (calls-fit types (rows_in partial) calls (drop 1 partial) can
    (drop-fits (type.Decimal 38 0 ∷ []) (columns_types types calls) partial (all_merged-fits types calls (behind_key w rows key) (behind-fit kinds parts rows key whole)))))
