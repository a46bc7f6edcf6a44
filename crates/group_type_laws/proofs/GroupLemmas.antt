-- The rows of the groups of typed rows have the types of their keys and of the results of the calls.
use Rattle.std.proofs.Common.{◌≡◌, ℕ, ◌^◌, ◌≤◌, List, [], ◌∷◌, ◌++◌, length, map, Bool, true, false, if◌then◌else◌, nat_le, pos, Result, Ok, Err, IfOk, refl, arith}
use Rattle.std.specs.Prelude.{All, IsTrue, flat_map}
use Rattle.std.specs.Ordering.{is_le}
use Rattle.std.proofs.lemmas.Bool.{and_parts, leb-true, lt-ltb}
use Rattle.std.proofs.lemmas.List.{length-map}
use Rattle.std.proofs.lemmas.List.Elements.{All-cons, All-filter, All-head, All-nil, All-tail, filter_passes}
use Rattle.std.proofs.lemmas.List.Sums.{AllPass-from_list_all, count_by-le-length, length-filter, list_all-from_AllPass}
use Rattle.std.proofs.lemmas.Result.{IfOk-at_ok}
use Rattle.sql_values.specs.declared.types.SqlType.{SqlType}
use Rattle.sql_values.specs.declared.types.SqlType.TheVariants as type
use Rattle.sql_values.specs.declared.value.Value.{Value}
use Rattle.sql_values.specs.declared.value.Value.TheVariants.{Bigint}
use Rattle.sql_values.specs.declared.fail.Fail.{Fail}
use Rattle.sql_values.specs.declared.fail.Fail.TheVariants.{OutOfRange}
use Rattle.sql_values.specs.declared.order.Order.{Order}
use Rattle.sql_values.specs.declared.order.Order.TheVariants.{Ascending, Descending}
use Rattle.sql_values.specs.declared.relational.Call.{Call}
use Rattle.sql_values.specs.declared.relational.Call.TheVariants.{CountAll, Count, Sum, Min, Max, Avg}
use Rattle.sql_values.specs.Cells.{cell, cut}
use Rattle.sql_values.specs.Order.{cell_cmp}
use Rattle.sql_values.specs.Types.{row_has_types, rows_have_types}
use Rattle.sql_functions.specs.CallTypes.{type_at}
use Rattle.sql_functions.specs.Outcomes.{Outcome}
use Rattle.plan_trees.specs.TreeTypes.{call_kind}
use Rattle.relation_laws.specs.Aggregates.{aggregates_of, all_values, call_result, first_by, most_group_rows, values_in, with_first, within_rows}
use Rattle.relation_laws.specs.Equality.{is_present, same_row}
use Rattle.relation_laws.specs.Groups.{group_of, grouped_row, groups_of, keys_of}
use Rattle.relation_laws.specs.Verdicts.{Verdict, kept}
use Rattle.relation_laws.proofs.WidthLemmas.{All-distinct, All-each, All-flat}
use Rattle.accumulators.specs.Columns.{column_of}
use Rattle.accumulators.specs.Limits.{are_allowed, can_add}
use Rattle.group_type_laws.proofs.TypeLemmas.{AreOf, IsOf, append-are_of, cell-is_of, cut-are_of, next-are_of, null-is_of}
use Rattle.group_type_laws.proofs.SumLemmas.{AllOf, AllPresent, average-is_of, sum-is_of}

abbrev pub RowsAreOf : List SqlType → List (List Value) → Type 0
RowsAreOf types rows = All (AreOf types) rows

-- the keys
pub keys-are_of : (types : List SqlType) (columns : List ℕ) (rows : List (List Value)) → RowsAreOf types rows → RowsAreOf (map (type_at types) columns) (keys_of columns rows)
keys-are_of types [] rows h = All-cons (AreOf []) [] [] refl (All-nil (AreOf []))
keys-are_of types (column ∷ columns) rows h =
    let kinds = map (type_at types) (column ∷ columns) in
    let cuts = map (cut (column ∷ columns)) rows in
    All-distinct (AreOf kinds) same_row cuts
    (All-each (AreOf types) (AreOf kinds) (cut (column ∷ columns)) (λ row is. cut-are_of types (column ∷ columns) row is) rows h)

pub group-is_of : (types : List SqlType) (columns : List ℕ) (rows : List (List Value)) (key : List Value) → RowsAreOf types rows → RowsAreOf types (group_of columns rows key)
group-is_of types columns rows key h = All-filter (λ row. same_row key (cut columns row)) (AreOf types) rows h

-- the values of a column
pub values-are_of : (types : List SqlType) (column : ℕ) (rows : List (List Value)) → RowsAreOf types rows → AllOf (type_at types column) (values_in column rows)
values-are_of types column rows h =
    let kind = type_at types column in
    All-filter is_present (IsOf kind) (map (λ row. cell row column) rows)
    (All-each (AreOf types) (IsOf kind) (λ row. cell row column) (λ row is. cell-is_of types row column is) rows h)

pub values-present : (column : ℕ) (rows : List (List Value)) → AllPresent (values_in column rows)
values-present column rows = filter_passes is_present (map (λ row. cell row column) rows)

pub values-few : (column : ℕ) (rows : List (List Value)) → length (values_in column rows) ≤ length rows
values-few column rows =
    let cells = map (λ row. cell row column) rows in
    omega (arith, length-filter is_present cells, count_by-le-length is_present cells, length-map rows (λ row. cell row column))

pub either-is_of : (kind : SqlType) (b : Bool) (v w : Value) → IsOf kind v → IsOf kind w → IsOf kind (if b then v else w)
either-is_of kind true v w h k = h
either-is_of kind false v w h k = k

pub first-is_of : (kind : SqlType) (order : Order) (vs : List Value) → AllOf kind vs → IsOf kind (first_by order vs)
first-is_of kind order [] h = null-is_of kind
first-is_of kind order (v ∷ vs) h =
    either-is_of kind (is_le (cell_cmp order v (first_by order vs))) v (first_by order vs) (All-head (IsOf kind) v vs h) (first-is_of kind order vs (All-tail (IsOf kind) v vs h))

pub count-is_of : (n : ℕ) → n ≤ most_group_rows → IsOf type.Bigint (Bigint (pos n))
count-is_of n few = lt-ltb n (2 ^ 63) (omega (arith, few))

-- the results of the calls over a group that has not too many rows
call-is_of : (types : List SqlType) (call : Call) (rows : List (List Value)) → IsTrue (can_add (type_at types (column_of call)) call) → RowsAreOf types rows → length rows ≤ most_group_rows
    → IfOk (call_result types rows call) (IsOf (call_kind types call))
call-is_of types CountAll rows can h few = count-is_of (length rows) few
call-is_of types (Count column) rows can h few = count-is_of (length (values_in column rows)) (omega (arith, few, values-few column rows))
call-is_of types (Sum column) rows can h few =
    sum-is_of (type_at types column) (values_in column rows) can (omega (arith, few, values-few column rows)) (values-are_of types column rows h) (values-present column rows)
call-is_of types (Min column) rows can h few = first-is_of (type_at types column) Ascending (values_in column rows) (values-are_of types column rows h)
call-is_of types (Max column) rows can h few = first-is_of (type_at types column) Descending (values_in column rows) (values-are_of types column rows h)
call-is_of types (Avg column) rows can h few = average-is_of (type_at types column) (values_in column rows) can (values-are_of types column rows h) (values-present column rows)

within-is_of : (kind : SqlType) (rows : ℕ) (o : Outcome) (b : Bool) → nat_le rows most_group_rows ≡ b → (rows ≤ most_group_rows → IfOk o (IsOf kind)) → IfOk {T = Value} {E = Fail} (if b then o else Err OutOfRange) (IsOf kind)
within-is_of kind rows o true e each = each (leb-true rows most_group_rows e)
within-is_of kind rows o false e each = tt

with-are_of : (kind : SqlType) (kinds : List SqlType) (v : Value) (rest : Result (List Value) Fail) → IsOf kind v → IfOk rest (AreOf kinds) → IfOk (with_first v rest) (AreOf (kind ∷ kinds))
with-are_of kind kinds v (Ok vs) h k = next-are_of kind kinds v vs h k
with-are_of kind kinds v (Err e) h k = tt

outcomes-are_of : (kind : SqlType) (kinds : List SqlType) (o : Outcome) (os : List Outcome) → IfOk o (IsOf kind) → IfOk (all_values os) (AreOf kinds)
    → IfOk (all_values (o ∷ os)) (AreOf (kind ∷ kinds))
outcomes-are_of kind kinds (Ok v) os h k = with-are_of kind kinds v (all_values os) h k
outcomes-are_of kind kinds (Err e) os h k = tt

results-are_of : (types : List SqlType) (calls : List Call) (rows : List (List Value)) → IsTrue (are_allowed types calls) → RowsAreOf types rows
    → IfOk (aggregates_of types calls rows) (AreOf (map (call_kind types) calls))
results-are_of types [] rows can h = refl
results-are_of types (call ∷ calls) rows can h =
    let parts = and_parts (can_add (type_at types (column_of call)) call) (are_allowed types calls) can in
    outcomes-are_of (call_kind types call) (map (call_kind types) calls) (within_rows (length rows) (call_result types rows call))
    (map (λ c. within_rows (length rows) (call_result types rows c)) calls)
    (within-is_of (call_kind types call) (length rows) (call_result types rows call) (nat_le (length rows) most_group_rows) refl (call-is_of types call rows parts.0 h))
    (results-are_of types calls rows parts.1 h)

-- the rows of the groups
grouped-is_of : (kinds types : List SqlType) (key : List Value) (o : Result (List Value) Fail) → AreOf kinds key → IfOk o (AreOf types) → RowsAreOf (kinds ++ types) (kept (grouped_row key o))
grouped-is_of kinds types key (Ok results) h k =
    All-cons (AreOf (kinds ++ types)) (key ++ results) [] (append-are_of kinds types key results h k) (All-nil (AreOf (kinds ++ types)))
grouped-is_of kinds types key (Err kind) h k = All-nil (AreOf (kinds ++ types))

groups-are_of : (types : List SqlType) (columns : List ℕ) (calls : List Call) (rows : List (List Value)) → IsTrue (are_allowed types calls) → RowsAreOf types rows
    → RowsAreOf (map (type_at types) columns ++ map (call_kind types) calls) (flat_map kept (groups_of types columns calls rows))
groups-are_of types columns calls rows can h =
    let kinds = map (type_at types) columns in
    let results = map (call_kind types) calls in
    let row_of : List Value → Verdict = λ key. grouped_row key (aggregates_of types calls (group_of columns rows key)) in
    All-flat (λ verdict. RowsAreOf (kinds ++ results) (kept verdict)) (AreOf (kinds ++ results)) kept (λ verdict is. is) (map row_of (keys_of columns rows))
    (All-each (AreOf kinds) (λ verdict. RowsAreOf (kinds ++ results) (kept verdict)) row_of
    (λ key is. grouped-is_of kinds results key (aggregates_of types calls (group_of columns rows key)) is
    (results-are_of types calls (group_of columns rows key) can (group-is_of types columns rows key h)))
    (keys_of columns rows) (keys-are_of types columns rows h))

-- lists of rows by the test, and row by row
pub rows_from_test : (types : List SqlType) (rows : List (List Value)) → IsTrue (rows_have_types types rows) → RowsAreOf types rows
rows_from_test types rows h = AllPass-from_list_all (row_has_types types) rows h

pub test_from_rows : (types : List SqlType) (rows : List (List Value)) → RowsAreOf types rows → IsTrue (rows_have_types types rows)
test_from_rows types rows h = list_all-from_AllPass (row_has_types types) rows h

pub aggregates_keep : (types : List SqlType) (calls : List Call) (rows : List (List Value)) (results : List Value) → IsTrue (are_allowed types calls) → IsTrue (rows_have_types types rows)
    → aggregates_of types calls rows ≡ Ok results → row_has_types (map (call_kind types) calls) results ≡ true
aggregates_keep types calls rows results can h e =
    IfOk-at_ok (AreOf (map (call_kind types) calls)) e (results-are_of types calls rows can (rows_from_test types rows h))

pub groups_keep : (types : List SqlType) (keys : List ℕ) (calls : List Call) (rows : List (List Value)) → IsTrue (are_allowed types calls) → IsTrue (rows_have_types types rows)
    → IsTrue (rows_have_types (map (type_at types) keys ++ map (call_kind types) calls) (flat_map kept (groups_of types keys calls rows)))
groups_keep types keys calls rows can h =
    test_from_rows (map (type_at types) keys ++ map (call_kind types) calls) (flat_map kept (groups_of types keys calls rows))
    (groups-are_of types keys calls rows can (rows_from_test types rows h))
