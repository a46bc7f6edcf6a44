-- The partial row of two lists of rows is the merge of theirs, and the results follow from it.
use Rattle.std.proofs.Common.{◌≡◌, ℕ, ◌+◌, ◌<◌, ◌≤◌, List, [], ◌∷◌, ◌++◌, refl, ap, sym, ◌∙◌, arith, length, drop, map}
use Rattle.std.specs.Prelude.{◌^◌, filter, flat_map, pos, ◌+ℤ◌, if◌then◌else◌, Err}
use Rattle.std.proofs.Common.{◌⊎◌, inl, inr}
use Rattle.std.proofs.lemmas.Bool.{cases_lt, le-leb, lt-leb}
use Rattle.std.proofs.Math.IntN.{+ℤ_assoc, +ℤ_idl, pos-+ℤ-pos}
use Rattle.std.proofs.lemmas.List.{map-append, length-append, append-nil}
use Rattle.std.proofs.lemmas.List.Elements.{filter-append}
use Rattle.sql_values.specs.declared.types.SqlType.{SqlType}
use Rattle.sql_values.specs.declared.value.Value.{Value}
use Rattle.sql_values.specs.declared.value.Value.TheVariants.{Null, Bigint, Decimal}
use Rattle.sql_values.specs.declared.fail.Fail.TheVariants.{OutOfRange}
use Rattle.sql_values.specs.declared.order.Order.TheVariants.{Ascending, Descending}
use Rattle.sql_values.specs.declared.relational.Call.{Call}
use Rattle.sql_values.specs.declared.relational.Call.TheVariants.{CountAll, Count, Sum, Min, Max, Avg}
use Rattle.sql_values.specs.Cells.{cell}
use Rattle.sql_values.specs.Order.{number_in}
use Rattle.sql_functions.specs.Outcomes.{Outcome}
use Rattle.sql_functions.specs.CallTypes.{type_at}
use Rattle.relation_laws.specs.Equality.{is_present}
use Rattle.relation_laws.specs.Aggregates.{aggregates_of, all_values, average_of, call_result, count_of, first_by, most_group_rows, sum_of, total_of, values_in, within_rows}
use Rattle.relation_laws.specs.Partials.{added_counts, added_sums, average_from, call_columns, call_from, call_width, calls_from, merged, merged_call, merged_calls, overfull, partial_of, partial_sum, results_from, rows_in, sum_from, with_rows}
use Rattle.relation_laws.proofs.FirstLemmas.{first_by-append}

pub values_in-append : (column : ℕ) (rows others : List (List Value)) → values_in column (rows ++ others) ≡ values_in column rows ++ values_in column others
values_in-append column rows others =
    ap (filter is_present) (map-append (λ row. cell row column) rows others)
    ∙ filter-append is_present (map (λ row. cell row column) rows) (map (λ row. cell row column) others)

pub total_of-append : (vs ws : List Value) → total_of (vs ++ ws) ≡ total_of vs +ℤ total_of ws
total_of-append [] ws = sym (+ℤ_idl (total_of ws))
total_of-append (v ∷ vs) ws = ap (λ n. number_in v +ℤ n) (total_of-append vs ws) ∙ sym (+ℤ_assoc (number_in v) (total_of vs) (total_of ws))

count_of-append : (vs ws : List Value) → count_of (vs ++ ws) ≡ added_counts (count_of vs) (count_of ws)
count_of-append vs ws = ap (λ n. Bigint (pos n)) (length-append vs ws) ∙ sym (ap Bigint (pos-+ℤ-pos (length vs) (length ws)))

nil_right : (v : Value) → added_sums v Null ≡ v
nil_right Null = refl
nil_right v = refl

partial_sum-append : (vs ws : List Value) → partial_sum (vs ++ ws) ≡ added_sums (partial_sum vs) (partial_sum ws)
partial_sum-append [] ws = refl
partial_sum-append (v ∷ vs) [] = ap (λ us. Decimal (total_of (v ∷ us))) (append-nil vs)
partial_sum-append (v ∷ vs) (w ∷ ws) = ap Decimal (total_of-append (v ∷ vs) (w ∷ ws))

-- columns of one call, with more behind them
call_columns-append : (rows others : List (List Value)) (call : Call) (p q : List Value)
    → merged_call call (call_columns rows call ++ p) (call_columns others call ++ q) ≡ call_columns (rows ++ others) call
call_columns-append rows others CountAll p q = refl
call_columns-append rows others (Count column) p q =
    sym (ap (λ vs. count_of vs ∷ []) (values_in-append column rows others) ∙ ap (λ v. v ∷ []) (count_of-append (values_in column rows) (values_in column others)))
call_columns-append rows others (Sum column) p q =
    sym (ap (λ vs. partial_sum vs ∷ []) (values_in-append column rows others) ∙ ap (λ v. v ∷ []) (partial_sum-append (values_in column rows) (values_in column others)))
call_columns-append rows others (Min column) p q =
    sym (ap (λ vs. first_by Ascending vs ∷ []) (values_in-append column rows others) ∙ ap (λ v. v ∷ []) (first_by-append Ascending (values_in column rows) (values_in column others)))
call_columns-append rows others (Max column) p q =
    sym (ap (λ vs. first_by Descending vs ∷ []) (values_in-append column rows others) ∙ ap (λ v. v ∷ []) (first_by-append Descending (values_in column rows) (values_in column others)))
call_columns-append rows others (Avg column) p q =
    sym (ap (λ vs. partial_sum vs ∷ count_of vs ∷ []) (values_in-append column rows others)
    ∙ ap (λ v. v ∷ count_of (values_in column rows ++ values_in column others) ∷ []) (partial_sum-append (values_in column rows) (values_in column others))
    ∙ ap (λ v. added_sums (partial_sum (values_in column rows)) (partial_sum (values_in column others)) ∷ v ∷ []) (count_of-append (values_in column rows) (values_in column others)))

-- what stands behind a call's columns
behind : (rows : List (List Value)) (call : Call) (p : List Value) → drop (call_width call) (call_columns rows call ++ p) ≡ p
behind rows CountAll p = refl
behind rows (Count column) p = refl
behind rows (Sum column) p = refl
behind rows (Min column) p = refl
behind rows (Max column) p = refl
behind rows (Avg column) p = refl

merged_columns : (calls : List Call) (rows others : List (List Value))
    → merged_calls calls (flat_map (call_columns rows) calls) (flat_map (call_columns others) calls) ≡ flat_map (call_columns (rows ++ others)) calls
merged_columns [] rows others = refl
merged_columns (call ∷ calls) rows others =
    let p = flat_map (call_columns rows) calls in
    let q = flat_map (call_columns others) calls in
    ap (λ u. merged_call call (call_columns rows call ++ p) (call_columns others call ++ q) ++ merged_calls calls u (drop (call_width call) (call_columns others call ++ q))) (behind rows call p)
    ∙ ap (λ u. merged_call call (call_columns rows call ++ p) (call_columns others call ++ q) ++ merged_calls calls p u) (behind others call q)
    ∙ ap (λ u. u ++ merged_calls calls p q) (call_columns-append rows others call p q)
    ∙ ap (λ u. call_columns (rows ++ others) call ++ u) (merged_columns calls rows others)

pub within_most : (calls : List Call) (rows : ℕ) (columns : List Value) → rows ≤ most_group_rows → with_rows calls rows columns ≡ Decimal (pos rows) ∷ columns
within_most calls rows columns h = ap (λ b. if b then Decimal (pos rows) ∷ columns else overfull calls) (le-leb rows most_group_rows h)

pub beyond_most : (calls : List Call) (rows : ℕ) (columns : List Value) → most_group_rows < rows → with_rows calls rows columns ≡ overfull calls
beyond_most calls rows columns h = ap (λ b. if b then Decimal (pos rows) ∷ columns else overfull calls) (lt-leb rows most_group_rows h)

appended_at : (calls : List Call) (rows others : List (List Value))
    → (most_group_rows < length rows) ⊎ (length rows ≤ most_group_rows) → (most_group_rows < length others) ⊎ (length others ≤ most_group_rows)
    → partial_of calls (rows ++ others) ≡ merged calls (partial_of calls rows) (partial_of calls others)
appended_at calls rows others (inr h) (inr k) =
    let p = flat_map (call_columns rows) calls in
    let q = flat_map (call_columns others) calls in
    (λ i. with_rows calls (length-append rows others i) (sym (merged_columns calls rows others) i))
    ∙ (λ i. merged calls (sym (within_most calls (length rows) p h) i) (sym (within_most calls (length others) q k) i))
appended_at calls rows others (inr h) (inl k) =
    beyond_most calls (length (rows ++ others)) (flat_map (call_columns (rows ++ others)) calls) (omega (arith, length-append rows others))
    ∙ sym (beyond_most calls (rows_in (partial_of calls rows) + 2 ^ 63) (merged_calls calls (drop 1 (partial_of calls rows)) (drop 1 (overfull calls))) (omega arith))
    ∙ ap (merged calls (partial_of calls rows)) (sym (beyond_most calls (length others) (flat_map (call_columns others) calls) k))
appended_at calls rows others (inl h) k =
    beyond_most calls (length (rows ++ others)) (flat_map (call_columns (rows ++ others)) calls) (omega (arith, length-append rows others))
    ∙ sym (beyond_most calls (2 ^ 63 + rows_in (partial_of calls others)) (merged_calls calls (drop 1 (overfull calls)) (drop 1 (partial_of calls others))) (omega arith))
    ∙ ap (λ p. merged calls p (partial_of calls others)) (sym (beyond_most calls (length rows) (flat_map (call_columns rows) calls) h))

pub partial_of-append : (calls : List Call) (rows others : List (List Value))
    → partial_of calls (rows ++ others) ≡ merged calls (partial_of calls rows) (partial_of calls others)
partial_of-append calls rows others = appended_at calls rows others (cases_lt most_group_rows (length rows)) (cases_lt most_group_rows (length others))

sum_is : (kind : SqlType) (vs : List Value) → sum_from kind (partial_sum vs) ≡ sum_of kind vs
sum_is kind [] = refl
sum_is kind (v ∷ vs) = refl

average_is : (vs : List Value) → average_from (partial_sum vs) (count_of vs) ≡ average_of vs
average_is [] = refl
average_is (v ∷ vs) = refl

call_is : (types : List SqlType) (rows : List (List Value)) (p : List Value) (call : Call)
    → call_from types (length rows) (call_columns rows call ++ p) call ≡ call_result types rows call
call_is types rows p CountAll = refl
call_is types rows p (Count column) = refl
call_is types rows p (Sum column) = sum_is (type_at types column) (values_in column rows)
call_is types rows p (Min column) = refl
call_is types rows p (Max column) = refl
call_is types rows p (Avg column) = average_is (values_in column rows)

calls_are : (types : List SqlType) (rows : List (List Value)) (calls : List Call)
    → calls_from types (length rows) (flat_map (call_columns rows) calls) calls ≡ map (λ call. within_rows (length rows) (call_result types rows call)) calls
calls_are types rows [] = refl
calls_are types rows (call ∷ calls) =
    let p = flat_map (call_columns rows) calls in
    ap (λ o. within_rows (length rows) o ∷ calls_from types (length rows) (drop (call_width call) (call_columns rows call ++ p)) calls) (call_is types rows p call)
    ∙ ap (λ u. within_rows (length rows) (call_result types rows call) ∷ calls_from types (length rows) u calls) (behind rows call p)
    ∙ ap (λ os. within_rows (length rows) (call_result types rows call) ∷ os) (calls_are types rows calls)

too_many : (rows : ℕ) (o : Outcome) → most_group_rows < rows → within_rows rows o ≡ Err OutOfRange
too_many rows o h = ap (λ b. if b then o else Err OutOfRange) (lt-leb rows most_group_rows h)

none_told : (types : List SqlType) (rows : ℕ) (columns : List Value) (calls : List Call) → most_group_rows < rows
    → calls_from types rows columns calls ≡ map (λ call. Err OutOfRange) calls
none_told types rows columns [] h = refl
none_told types rows columns (call ∷ calls) h =
    λ i. too_many rows (call_from types rows columns call) h i ∷ none_told types rows (drop (call_width call) columns) calls h i

none_given : (types : List SqlType) (rows : List (List Value)) (calls : List Call) → most_group_rows < length rows
    → map (λ call. within_rows (length rows) (call_result types rows call)) calls ≡ map (λ call. Err OutOfRange) calls
none_given types rows [] h = refl
none_given types rows (call ∷ calls) h = λ i. too_many (length rows) (call_result types rows call) h i ∷ none_given types rows calls h i

told_at : (types : List SqlType) (calls : List Call) (rows : List (List Value)) → (most_group_rows < length rows) ⊎ (length rows ≤ most_group_rows)
    → results_from types calls (partial_of calls rows) ≡ aggregates_of types calls rows
told_at types calls rows (inr h) =
    ap (results_from types calls) (within_most calls (length rows) (flat_map (call_columns rows) calls) h)
    ∙ ap all_values (calls_are types rows calls)
told_at types calls rows (inl h) =
    ap (results_from types calls) (beyond_most calls (length rows) (flat_map (call_columns rows) calls) h)
    ∙ ap all_values (none_told types (2 ^ 63) (drop 1 (overfull calls)) calls (omega arith) ∙ sym (none_given types rows calls h))

pub results_from-partial_of : (types : List SqlType) (calls : List Call) (rows : List (List Value))
    → results_from types calls (partial_of calls rows) ≡ aggregates_of types calls rows
results_from-partial_of types calls rows = told_at types calls rows (cases_lt most_group_rows (length rows))
