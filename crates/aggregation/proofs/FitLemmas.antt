-- The rows of the groups of rows fit the types of their keys and of the results of the calls.
use Rattle.std.proofs.Common.{ℕ, zero, suc, List, [], ◌∷◌, ◌++◌, Bool, true, false, length, map, refl}
use Rattle.std.specs.Prelude.{All, IfOk, IsTrue, Result, Ok, Err, ℤ, filter, flat_map, if◌then◌else◌, nat_le, not, ◌&&◌}
use Rattle.std.specs.Ordering.{is_le}
use Rattle.std.proofs.lemmas.Bool.{and_from, and_parts}
use Rattle.std.proofs.lemmas.List.Elements.{All-append, All-cons, All-filter, All-head, All-map, All-nil, All-tail, All-weaker}
use Rattle.scalar_texts.specs.Numbers.{has_64_bits}
use Rattle.sql_values.specs.declared.types.SqlType.{SqlType}
use Rattle.sql_values.specs.declared.types.SqlType.TheVariants as type
use Rattle.sql_values.specs.declared.value.Value.{Value}
use Rattle.sql_values.specs.declared.value.Value.TheVariants.{Null, Bigint}
use Rattle.sql_values.specs.declared.fail.Fail.{Fail}
use Rattle.sql_values.specs.declared.fail.Fail.TheVariants.{OutOfRange}
use Rattle.sql_values.specs.declared.order.Order.{Order}
use Rattle.sql_values.specs.declared.order.Order.TheVariants.{Ascending, Descending}
use Rattle.sql_values.specs.declared.relational.Call.{Call}
use Rattle.sql_values.specs.declared.relational.Call.TheVariants.{CountAll, Count, Sum, Min, Max, Avg}
use Rattle.sql_values.specs.Blocks.{fits}
use Rattle.sql_values.specs.Cells.{cell, cut}
use Rattle.sql_values.specs.ColumnRows.{fits_row}
use Rattle.sql_values.specs.Order.{cell_cmp}
use Rattle.sql_functions.specs.CallTypes.{is_decimal, type_at}
use Rattle.sql_functions.specs.Outcomes.{Outcome}
use Rattle.plan_trees.specs.TreeTypes.{call_kind, sum_kind}
use Rattle.relation_laws.specs.Aggregates.{aggregates_of, all_values, average_of, call_result, first_by, most_group_rows, sum_of, sum_value, total_of, values_in, with_first, within_rows}
use Rattle.relation_laws.specs.Equality.{is_present, same_row}
use Rattle.relation_laws.specs.Groups.{distinct, group_of, grouped_row, groups_of, keys_of}
use Rattle.relation_laws.specs.Verdicts.{Verdict, kept}
use Rattle.accumulators.specs.Columns.{column_of}
use Rattle.accumulators.specs.Limits.{are_allowed, can_add, is_short}
use Rattle.col_pages.specs.Fits.{AllFit}

abbrev pub Fits : SqlType → Value → Type 0
Fits kind v = IsTrue (fits kind v)

abbrev pub RowFits : List SqlType → List Value → Type 0
RowFits types row = IsTrue (fits_row types row)

pub null-fits : (kind : SqlType) → Fits kind Null
null-fits type.Boolean = refl
null-fits type.Bigint = refl
null-fits (type.Decimal p s) = refl
null-fits type.Varchar = refl
null-fits type.Date = refl

pub cell-fits : (types : List SqlType) (row : List Value) (i : ℕ) → RowFits types row → Fits (type_at types i) (cell row i)
cell-fits [] [] zero h = refl
cell-fits [] [] (suc i) h = refl
cell-fits [] (v ∷ row) i h = cc
cell-fits (kind ∷ types) [] i h = cc
cell-fits (kind ∷ types) (v ∷ row) zero h = (and_parts (fits kind v) (fits_row types row) h).0
cell-fits (kind ∷ types) (v ∷ row) (suc i) h = cell-fits types row i (and_parts (fits kind v) (fits_row types row) h).1

pub cut-fits : (types : List SqlType) (columns : List ℕ) (row : List Value) → RowFits types row → RowFits (map (type_at types) columns) (cut columns row)
cut-fits types [] row h = refl
cut-fits types (column ∷ columns) row h =
    and_from (fits (type_at types column) (cell row column)) (fits_row (map (type_at types) columns) (cut columns row)) (cell-fits types row column h) (cut-fits types columns row h)

pub append-fits : (kinds types : List SqlType) (row more : List Value) → RowFits kinds row → RowFits types more → RowFits (kinds ++ types) (row ++ more)
append-fits [] types [] more h k = k
append-fits [] types (v ∷ row) more h k = cc
append-fits (kind ∷ kinds) types [] more h k = cc
append-fits (kind ∷ kinds) types (v ∷ row) more h k =
    let parts = and_parts (fits kind v) (fits_row kinds row) h in
    and_from (fits kind v) (fits_row (kinds ++ types) (row ++ more)) parts.0 (append-fits kinds types row more parts.1 k)

-- the keys
pub distinct-all : {A : Type 0} (P : A → Type 0) (same : A → A → Bool) (xs : List A) → All P xs → All P (distinct same xs)
distinct-all P same [] h = h
distinct-all P same (x ∷ xs) h =
    All-cons P x (filter (λ y. not (same x y)) (distinct same xs)) (All-head P x xs h)
    (All-filter (λ y. not (same x y)) P (distinct same xs) (distinct-all P same xs (All-tail P x xs h)))

pub keys-fit : (types : List SqlType) (columns : List ℕ) (rows : List (List Value)) → AllFit types rows → AllFit (map (type_at types) columns) (keys_of columns rows)
keys-fit types [] rows h = All-cons (RowFits []) [] [] refl (All-nil (RowFits []))
keys-fit types (column ∷ columns) rows h =
    let kinds = map (type_at types) (column ∷ columns) in
    distinct-all (RowFits kinds) same_row (map (cut (column ∷ columns)) rows)
    (All-map (RowFits kinds) (cut (column ∷ columns)) rows
    (All-weaker (RowFits types) (λ row. RowFits kinds (cut (column ∷ columns) row)) (λ row fit. cut-fits types (column ∷ columns) row fit) rows h))

-- the results of the calls
pub values-fit : (types : List SqlType) (column : ℕ) (rows : List (List Value)) → AllFit types rows → All (Fits (type_at types column)) (values_in column rows)
values-fit types column rows h =
    let kind = type_at types column in
    All-filter is_present (Fits kind) (map (λ row. cell row column) rows)
    (All-map (Fits kind) (λ row. cell row column) rows (All-weaker (RowFits types) (λ row. Fits kind (cell row column)) (λ row fit. cell-fits types row column fit) rows h))

pub one-fits : (kind : SqlType) (b : Bool) (v w : Value) → Fits kind v → Fits kind w → Fits kind (if b then v else w)
one-fits kind true v w h k = h
one-fits kind false v w h k = k

pub first-fits : (kind : SqlType) (order : Order) (vs : List Value) → All (Fits kind) vs → Fits kind (first_by order vs)
first-fits kind order [] h = null-fits kind
first-fits kind order (v ∷ vs) h =
    one-fits kind (is_le (cell_cmp order v (first_by order vs))) v (first_by order vs) (All-head (Fits kind) v vs h) (first-fits kind order vs (All-tail (Fits kind) v vs h))

whole-fits : (b : Bool) (total : ℤ) → IfOk {T = Value} {E = Fail} (if b then Ok (Bigint total) else Err OutOfRange) (Fits type.Bigint)
whole-fits true total = refl
whole-fits false total = tt

pub sum_value-fits : (kind : SqlType) (total : ℤ) → IfOk (sum_value kind total) (Fits (sum_kind kind))
sum_value-fits (type.Decimal p s) total = refl
sum_value-fits type.Boolean total = whole-fits (has_64_bits total) total
sum_value-fits type.Bigint total = whole-fits (has_64_bits total) total
sum_value-fits type.Varchar total = whole-fits (has_64_bits total) total
sum_value-fits type.Date total = whole-fits (has_64_bits total) total

sum-fits : (kind : SqlType) (vs : List Value) → IfOk (sum_of kind vs) (Fits (sum_kind kind))
sum-fits kind [] = null-fits (sum_kind kind)
sum-fits kind (v ∷ vs) = sum_value-fits kind (total_of (v ∷ vs))

average-fits : (kind : SqlType) (vs : List Value) → IsTrue (is_decimal kind && is_short kind) → IfOk (average_of vs) (Fits kind)
average-fits (type.Decimal p s) [] h = refl
average-fits (type.Decimal p s) (v ∷ vs) h = refl
average-fits type.Boolean vs h = cc
average-fits type.Bigint vs h = cc
average-fits type.Varchar vs h = cc
average-fits type.Date vs h = cc

result-fits : (types : List SqlType) (call : Call) (rows : List (List Value)) → IsTrue (can_add (type_at types (column_of call)) call) → AllFit types rows
    → IfOk (call_result types rows call) (Fits (call_kind types call))
result-fits types CountAll rows can fit = refl
result-fits types (Count column) rows can fit = refl
result-fits types (Sum column) rows can fit = sum-fits (type_at types column) (values_in column rows)
result-fits types (Min column) rows can fit = first-fits (type_at types column) Ascending (values_in column rows) (values-fit types column rows fit)
result-fits types (Max column) rows can fit = first-fits (type_at types column) Descending (values_in column rows) (values-fit types column rows fit)
result-fits types (Avg column) rows can fit = average-fits (type_at types column) (values_in column rows) can

pub few-fits : (kind : SqlType) (b : Bool) (o : Outcome) → IfOk o (Fits kind) → IfOk {T = Value} {E = Fail} (if b then o else Err OutOfRange) (Fits kind)
few-fits kind true o h = h
few-fits kind false o h = tt

with-fits : (kind : SqlType) (kinds : List SqlType) (v : Value) (rest : Result (List Value) Fail) → Fits kind v → IfOk rest (RowFits kinds) → IfOk (with_first v rest) (RowFits (kind ∷ kinds))
with-fits kind kinds v (Ok vs) h k = and_from (fits kind v) (fits_row kinds vs) h k
with-fits kind kinds v (Err e) h k = tt

pub next-fits : (kind : SqlType) (kinds : List SqlType) (o : Outcome) (os : List Outcome) → IfOk o (Fits kind) → IfOk (all_values os) (RowFits kinds)
    → IfOk (all_values (o ∷ os)) (RowFits (kind ∷ kinds))
next-fits kind kinds (Ok v) os h k = with-fits kind kinds v (all_values os) h k
next-fits kind kinds (Err e) os h k = tt

results-fit : (types : List SqlType) (calls : List Call) (rows : List (List Value)) → IsTrue (are_allowed types calls) → AllFit types rows
    → IfOk (aggregates_of types calls rows) (RowFits (map (call_kind types) calls))
results-fit types [] rows can fit = refl
results-fit types (call ∷ calls) rows can fit =
    let parts = and_parts (can_add (type_at types (column_of call)) call) (are_allowed types calls) can in
    next-fits (call_kind types call) (map (call_kind types) calls) (within_rows (length rows) (call_result types rows call))
    (map (λ c. within_rows (length rows) (call_result types rows c)) calls)
    (few-fits (call_kind types call) (nat_le (length rows) most_group_rows) (call_result types rows call) (result-fits types call rows parts.0 fit))
    (results-fit types calls rows parts.1 fit)

-- the rows
pub grouped-fits : (kinds types : List SqlType) (key : List Value) (o : Result (List Value) Fail) → RowFits kinds key → IfOk o (RowFits types) → AllFit (kinds ++ types) (kept (grouped_row key o))
grouped-fits kinds types key (Ok results) h k =
    All-cons (RowFits (kinds ++ types)) (key ++ results) [] (append-fits kinds types key results h k) (All-nil (RowFits (kinds ++ types)))
grouped-fits kinds types key (Err kind) h k = All-nil (RowFits (kinds ++ types))

pub kept-fit : (given kinds : List SqlType) (said : List Value → Verdict) (keys : List (List Value)) → AllFit kinds keys
    → ((key : List Value) → RowFits kinds key → AllFit given (kept (said key))) → AllFit given (flat_map kept (map said keys))
kept-fit given kinds said [] h each = All-nil (RowFits given)
kept-fit given kinds said (key ∷ keys) h each =
    All-append (RowFits given) (kept (said key)) (flat_map kept (map said keys)) (each key (All-head (RowFits kinds) key keys h))
    (kept-fit given kinds said keys (All-tail (RowFits kinds) key keys h) each)

-- rows of groups of rows that fit these types
pub groups-fit : (types : List SqlType) (columns : List ℕ) (calls : List Call) (rows : List (List Value)) → IsTrue (are_allowed types calls) → AllFit types rows
    → AllFit (map (type_at types) columns ++ map (call_kind types) calls) (flat_map kept (groups_of types columns calls rows))
groups-fit types columns calls rows can fit =
    let kinds = map (type_at types) columns in
    let results = map (call_kind types) calls in
    kept-fit (kinds ++ results) kinds (λ key. grouped_row key (aggregates_of types calls (group_of columns rows key))) (keys_of columns rows) (keys-fit types columns rows fit)
    (λ key h. grouped-fits kinds results key (aggregates_of types calls (group_of columns rows key)) h
    (results-fit types calls (group_of columns rows key) can (All-filter (λ row. same_row key (cut columns row)) (RowFits types) rows fit)))
