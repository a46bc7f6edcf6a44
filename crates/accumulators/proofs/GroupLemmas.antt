-- A group with the rows of a part, what follows from its partial row, and that it is one.
use Rattle.std.proofs.Common.{◌≡◌, ℕ, ◌+◌, ◌^◌, ◌<◌, ◌≤◌, zero, suc, List, [], ◌∷◌, ◌++◌, length, get_or, drop, take, map, refl, ap, sym, subst, ◌∙◌, arith, drop_at, ◌⊎◌, inl, inr}
use Rattle.std.specs.Prelude.{All, Bool, IsTrue, flat_map, replicate, sum_by, Err, nat_abs, nat_le, int_le, pos, ◌&&◌, true, if◌then◌else◌}
use Rattle.std.specs.List.{list_all}
use Rattle.std.proofs.lemmas.Bool.{and_from, and_parts, cases_lt, le-leb, lt-leb}
use Rattle.std.proofs.lemmas.List.{append_assoc, drop-replicate, length-map, map-append, replicate-append-replicate, take-replicate, take_more}
use Rattle.std.proofs.lemmas.List.Sums.{sum_by-append, sum_by-cons}
use Rattle.std.proofs.lemmas.List.Elements.{All-cons, All-head, All-nil, All-same, All-tail}
use Rattle.sql_values.specs.declared.types.SqlType.{SqlType}
use Rattle.sql_values.specs.declared.value.Value.{Value}
use Rattle.sql_values.specs.declared.value.Value.TheVariants.{Null}
use Rattle.sql_values.specs.declared.fail.Fail.TheVariants.{OutOfRange}
use Rattle.sql_values.specs.declared.relational.Call.{Call}
use Rattle.sql_values.specs.declared.relational.Call.TheVariants.{CountAll, Count, Sum, Min, Max, Avg}
use Rattle.sql_values.specs.Cells.{cell}
use Rattle.sql_values.specs.Order.{number_in}
use Rattle.sql_values.specs.ColumnRows.{TypedRows}
use Rattle.sql_functions.specs.Outcomes.{Outcome}
use Rattle.sql_functions.specs.Truth.{is_null}
use Rattle.relation_laws.specs.Aggregates.{all_values, most_group_rows, within_rows}
use Rattle.relation_laws.specs.Partials.{call_columns, call_from, call_width, calls_from, merged, merged_calls, overfull, partial_of, results_from, rows_in, with_rows}
use Rattle.relation_laws.proofs.PartialLemmas.{beyond_most, within_most}
use Rattle.accumulators.specs.Columns.{columns_of, kind_in}
use Rattle.accumulators.specs.Kept.{Kept, added_row, kept_of_none, all_columns, calls_of, kinds_of, merged_each, outcome_from, outcome_in}
use Rattle.accumulators.specs.Limits.{CanAdd, CanMergeEach, CanTake, IsKept, takes_row, are_all_columns, are_columns, are_null, is_partial, is_row_count}
use Rattle.accumulators.specs.Groups.{Group, IsGroup, all_outcomes, empty_group, group_kept, with_part, with_row}
use Rattle.accumulators.proofs.ColumnLemmas.{calls-merged, columns-merged, columns_of_row, first, first_two, kinds-merged, rows-merged, width-columns}
use Rattle.accumulators.proofs.CellLemmas.{behind_first, first_cell}
use Rattle.accumulators.proofs.KeptLemmas.{columns-can_merge, columns-kept, row-can_add, row-can_take, row-kept}

-- how many rows a group has by its partial row
pub rows-told : (calls : List Call) (rows : ℕ) (columns : List Value) → rows ≤ 2 ^ 63 → rows_in (with_rows calls rows columns) ≡ rows
rows-told calls rows columns few = rows_at (cases_lt most_group_rows rows)
  where
    rows_at : (most_group_rows < rows) ⊎ (rows ≤ most_group_rows) → rows_in (with_rows calls rows columns) ≡ rows
    rows_at (inl gt) = ap rows_in (beyond_most calls rows columns gt) ∙ omega (arith, gt, few)
    rows_at (inr le) = ap rows_in (within_most calls rows columns le)

-- a part whose rows are not too many
pub part-merged : (a : ℕ) (ks : List Kept) (part : List Value) → a + rows_in part ≤ most_group_rows → All (IsKept a) ks
    → with_part (group_kept a ks) part ≡ group_kept (a + rows_in part) (merged_each ks (drop 1 part))
part-merged a ks part few all =
    let calls = calls_of ks in
    let own : with_rows calls a (all_columns ks) ≡ _ = within_most calls a (all_columns ks) (omega (arith, few)) in
    let columns = columns-merged a ks (drop 1 part) all in
    λ i. record {
      calls = sym (calls-merged ks (drop 1 part)) i;
      kinds = sym (kinds-merged ks (drop 1 part)) i;
      partial = (ap (λ p. merged calls p part) own
          ∙ ap (with_rows calls (a + rows_in part)) (sym columns)
          ∙ ap (λ cs. with_rows cs (a + rows_in part) (all_columns (merged_each ks (drop 1 part)))) (sym (calls-merged ks (drop 1 part)))) i;
    }

-- one whose rows are
pub part-overfull : (a : ℕ) (ks now : List Kept) (part : List Value) → a ≤ 2 ^ 63 → most_group_rows < a + rows_in part → calls_of now ≡ calls_of ks → kinds_of now ≡ kinds_of ks
    → with_part (group_kept a ks) part ≡ group_kept (2 ^ 63) now
part-overfull a ks now part few many calls kinds =
    let cs = calls_of ks in
    let p = with_rows cs a (all_columns ks) in
    λ i. record {
      calls = sym calls i;
      kinds = sym kinds i;
      partial = (beyond_most cs (rows_in p + rows_in part) (merged_calls cs (drop 1 p) (drop 1 part)) (omega (arith, many, rows-told cs a (all_columns ks) few))
          ∙ ap overfull (sym calls)) i;
    }

-- one more row
pub row-added : (a : ℕ) (ks : List Kept) (row : List Value) → a + 1 ≤ most_group_rows → All (IsKept a) ks → with_row (group_kept a ks) row ≡ group_kept (a + 1) (map (added_row row) ks)
row-added a ks row few all =
    part-merged a ks (partial_of (calls_of ks) (row ∷ [])) few all
    ∙ ap (group_kept (a + 1)) (sym (rows-merged row ks))

pub row-overfull : (a : ℕ) (ks now : List Kept) (row : List Value) → a ≤ 2 ^ 63 → most_group_rows < a + 1 → calls_of now ≡ calls_of ks → kinds_of now ≡ kinds_of ks → with_row (group_kept a ks) row ≡ group_kept (2 ^ 63) now
row-overfull a ks now row few many calls kinds = part-overfull a ks now (partial_of (calls_of ks) (row ∷ [])) few many calls kinds

-- the columns of a call, with more behind them
columns-front : (rows : ℕ) (kind : SqlType) (call : Call) (p more : List Value) → length p ≡ call_width call → are_columns rows kind call (p ++ more) ≡ are_columns rows kind call p
columns-front rows kind CountAll p more h = refl
columns-front rows kind (Count column) p more h = ap (λ v. are_columns rows kind (Count column) (v ∷ [])) (first p more h)
columns-front rows kind (Sum column) p more h = ap (λ v. are_columns rows kind (Sum column) (v ∷ [])) (first p more h)
columns-front rows kind (Min column) p more h = refl
columns-front rows kind (Max column) p more h = refl
columns-front rows kind (Avg column) p more h = λ i. are_columns rows kind (Avg column) ((first_two p more h).0 i ∷ (first_two p more h).1 i ∷ [])

pub columns-whole : (rows : ℕ) (ks : List Kept) → All (IsKept rows) ks → IsTrue (are_all_columns rows (calls_of ks) (kinds_of ks) (all_columns ks))
columns-whole rows [] all = refl
columns-whole rows (k ∷ ks) all =
    let is = All-head (IsKept rows) k ks all in
    let more = all_columns ks in
    let w = call_width k.call in
    and_from (are_columns rows k.kind k.call (k.columns ++ more)) (are_all_columns rows (calls_of ks) (kinds_of ks) (drop w (k.columns ++ more)))
    (columns-front rows k.kind k.call k.columns more is.width ∙ is.within)
    (ap (are_all_columns rows (calls_of ks) (kinds_of ks)) (drop_at k.columns more w is.width) ∙ columns-whole rows ks (All-tail (IsKept rows) k ks all))

all-null : (n : ℕ) → list_all is_null (replicate n Null) ≡ true
all-null zero = refl
all-null (suc n) = all-null n

pub overfull-null : (calls : List Call) → IsTrue (are_null calls (replicate (sum_by call_width calls) Null))
overfull-null [] = refl
overfull-null (call ∷ calls) =
    let w = call_width call in
    let n = sum_by call_width calls in
    let whole : sum_by call_width (call ∷ calls) ≡ w + n = sum_by-cons call_width call calls in
    let front : list_all is_null (take w (replicate (w + n) Null)) ≡ true = ap (list_all is_null) (take-replicate w (w + n) Null (omega arith)) ∙ all-null w in
    let rest : drop w (replicate (w + n) Null) ≡ replicate n Null = drop-replicate w (w + n) Null ∙ ap (λ m. replicate m Null) (omega arith) in
    ap (λ m. are_null (call ∷ calls) (replicate m Null)) whole
    ∙ and_from (list_all is_null (take w (replicate (w + n) Null))) (are_null calls (drop w (replicate (w + n) Null))) front (ap (are_null calls) rest ∙ overfull-null calls)

-- the partial row is one of the layout
pub group-partial : (rows : ℕ) (ks : List Kept) → rows ≤ 2 ^ 63 → (rows ≤ most_group_rows → All (IsKept rows) ks) → IsTrue (is_partial (calls_of ks) (kinds_of ks) (group_kept rows ks).partial)
group-partial rows ks few all = partial_at (cases_lt most_group_rows rows)
  where
    partial_at : (most_group_rows < rows) ⊎ (rows ≤ most_group_rows) → IsTrue (is_partial (calls_of ks) (kinds_of ks) (group_kept rows ks).partial)
    partial_at (inl gt) = ap (is_partial (calls_of ks) (kinds_of ks)) (beyond_most (calls_of ks) rows (all_columns ks) gt) ∙ overfull-null (calls_of ks)
    partial_at (inr le) =
        ap (is_partial (calls_of ks) (kinds_of ks)) (within_most (calls_of ks) rows (all_columns ks) le)
        ∙ and_from (int_le (pos 0) (pos rows) && nat_le rows (2 ^ 63)) (if nat_le rows most_group_rows then are_all_columns rows (calls_of ks) (kinds_of ks) (all_columns ks) else are_null (calls_of ks) (all_columns ks))
        (and_from (int_le (pos 0) (pos rows)) (nat_le rows (2 ^ 63)) (le-leb 0 rows (omega arith)) (le-leb rows (2 ^ 63) few))
        (ap (λ b. if b then are_all_columns rows (calls_of ks) (kinds_of ks) (all_columns ks) else are_null (calls_of ks) (all_columns ks)) (le-leb rows most_group_rows le)
        ∙ columns-whole rows ks (all le))

-- what a call's columns say
outcome-front : (types : List SqlType) (rows : ℕ) (kind : SqlType) (call : Call) (p more : List Value) → length p ≡ call_width call → kind ≡ kind_in types call
    → call_from types rows (p ++ more) call ≡ outcome_from kind rows p call
outcome-front types rows kind CountAll p more h e = refl
outcome-front types rows kind (Count column) p more h e = ap (λ v. call_from types rows (v ∷ []) (Count column)) (first p more h)
outcome-front types rows kind (Sum column) p more h e =
    ap (λ v. call_from types rows (v ∷ []) (Sum column)) (first p more h) ∙ ap (λ k. outcome_from k rows p (Sum column)) (sym e)
outcome-front types rows kind (Min column) p more h e = ap (λ v. call_from types rows (v ∷ []) (Min column)) (first p more h)
outcome-front types rows kind (Max column) p more h e = ap (λ v. call_from types rows (v ∷ []) (Max column)) (first p more h)
outcome-front types rows kind (Avg column) p more h e = λ i. call_from types rows ((first_two p more h).0 i ∷ (first_two p more h).1 i ∷ []) (Avg column)

outcomes-told : (types : List SqlType) (rows : ℕ) (ks : List Kept) → All (IsKept rows) ks → kinds_of ks ≡ map (kind_in types) (calls_of ks)
    → calls_from types rows (all_columns ks) (calls_of ks) ≡ map (outcome_in rows) ks
outcomes-told types rows [] all e = refl
outcomes-told types rows (k ∷ ks) all e =
    let is = All-head (IsKept rows) k ks all in
    let more = all_columns ks in
    let here = outcome-front types rows k.kind k.call k.columns more is.width (first_kind e) in
    let rest = ap (λ c. calls_from types rows c (calls_of ks)) (drop_at k.columns more (call_width k.call) is.width) ∙ outcomes-told types rows ks (All-tail (IsKept rows) k ks all) (other_kinds e) in
    λ i. within_rows rows (here i) ∷ rest i
  where
    first_kind : (k.kind ∷ kinds_of ks) ≡ (kind_in types k.call ∷ map (kind_in types) (calls_of ks)) → k.kind ≡ kind_in types k.call
    first_kind e = cc

    other_kinds : (k.kind ∷ kinds_of ks) ≡ (kind_in types k.call ∷ map (kind_in types) (calls_of ks)) → kinds_of ks ≡ map (kind_in types) (calls_of ks)
    other_kinds e = cc

too_many : (rows : ℕ) (o : Outcome) → most_group_rows < rows → within_rows rows o ≡ Err OutOfRange
too_many rows o h = ap (λ b. if b then o else Err OutOfRange) (lt-leb rows most_group_rows h)

none-told : (types : List SqlType) (rows told : ℕ) (ks : List Kept) (columns : List Value) → most_group_rows < rows → most_group_rows < told
    → calls_from types told columns (calls_of ks) ≡ map (outcome_in rows) ks
none-told types rows told [] columns h g = refl
none-told types rows told (k ∷ ks) columns h g =
    let here = too_many told (call_from types told columns k.call) g ∙ sym (too_many rows (outcome_from k.kind rows k.columns k.call) h) in
    λ i. here i ∷ none-told types rows told ks (drop (call_width k.call) columns) h g i

pub results-told : (types : List SqlType) (rows : ℕ) (ks : List Kept) → (rows ≤ most_group_rows → All (IsKept rows) ks) → kinds_of ks ≡ map (kind_in types) (calls_of ks)
    → results_from types (calls_of ks) (group_kept rows ks).partial ≡ all_outcomes rows ks
results-told types rows ks all e = results_at (cases_lt most_group_rows rows)
  where
    results_at : (most_group_rows < rows) ⊎ (rows ≤ most_group_rows) → results_from types (calls_of ks) (group_kept rows ks).partial ≡ all_outcomes rows ks
    results_at (inl gt) =
        ap (results_from types (calls_of ks)) (beyond_most (calls_of ks) rows (all_columns ks) gt)
        ∙ ap all_values (none-told types rows (2 ^ 63) ks (drop 1 (overfull (calls_of ks))) gt (omega arith))
    results_at (inr le) =
        ap (results_from types (calls_of ks)) (within_most (calls_of ks) rows (all_columns ks) le)
        ∙ ap all_values (outcomes-told types rows ks (all le) e)

-- a group of no row
none-fits : (types : List SqlType) (call : Call) → IsTrue (are_columns 0 (kind_in types call) call (columns_of call []))
none-fits types CountAll = refl
none-fits types (Count column) = refl
none-fits types (Sum column) = refl
none-fits types (Min column) = refl
none-fits types (Max column) = refl
none-fits types (Avg column) = refl

none-kept : (types : List SqlType) (calls : List Call) → All (IsKept 0) (map (kept_of_none types) calls)
none-kept types [] = All-nil (IsKept 0)
none-kept types (call ∷ calls) =
    All-cons (IsKept 0) (kept_of_none types call) (map (kept_of_none types) calls)
    (record { width = width-columns call []; within = none-fits types call }) (none-kept types calls)

pub none-group : (types : List SqlType) (calls : List Call) (ks : List Kept) → ks ≡ map (kept_of_none types) calls → length calls ≤ 2 ^ 20 → IsGroup 0 ks
none-group types calls ks e few_calls = record {
  few = omega arith;
  few_calls = omega (arith, ap length e, length-map calls (kept_of_none types), few_calls);
  all_kept = λ few. subst (λ (xs : List Kept). All (IsKept 0) xs) (sym e) (none-kept types calls);
}

none-calls : (types : List SqlType) (calls : List Call) → calls_of (map (kept_of_none types) calls) ≡ calls
none-calls types [] = refl
none-calls types (call ∷ calls) = ap (λ cs. call ∷ cs) (none-calls types calls)

none-kinds : (types : List SqlType) (calls : List Call) → kinds_of (map (kept_of_none types) calls) ≡ map (kind_in types) calls
none-kinds types [] = refl
none-kinds types (call ∷ calls) = ap (λ ks. kind_in types call ∷ ks) (none-kinds types calls)

pub none-column : (call : Call) → columns_of call [] ≡ call_columns [] call
none-column CountAll = refl
none-column (Count column) = refl
none-column (Sum column) = refl
none-column (Min column) = refl
none-column (Max column) = refl
none-column (Avg column) = refl

pub none-width : (call : Call) → length (call_columns [] call) ≡ call_width call
none-width call = ap length (sym (none-column call)) ∙ width-columns call []

none-columns : (types : List SqlType) (calls : List Call) → all_columns (map (kept_of_none types) calls) ≡ flat_map (call_columns []) calls
none-columns types [] = refl
none-columns types (call ∷ calls) = λ i. none-column call i ++ none-columns types calls i

pub none-view : (types : List SqlType) (calls : List Call) (ks : List Kept) → ks ≡ map (kept_of_none types) calls → group_kept 0 ks ≡ empty_group types calls
none-view types calls ks e =
    ap (group_kept 0) e
    ∙ (λ i. record {
      calls = none-calls types calls i;
      kinds = none-kinds types calls i;
      partial = with_rows (none-calls types calls i) 0 (none-columns types calls i);
    })

-- the columns of a part whose rows are not too many
columns-of : (calls : List Call) (kinds : List SqlType) (part : List Value) → rows_in part ≤ most_group_rows → IsTrue (is_partial calls kinds part) → IsTrue (are_all_columns (rows_in part) calls kinds (drop 1 part))
columns-of calls kinds part few h =
    let parts = and_parts (is_row_count (cell part 0)) (if nat_le (rows_in part) most_group_rows then are_all_columns (rows_in part) calls kinds (drop 1 part) else are_null calls (drop 1 part)) h in
    ap (λ (b : Bool). if b then are_all_columns (rows_in part) calls kinds (drop 1 part) else are_null calls (drop 1 part)) (sym (le-leb (rows_in part) most_group_rows few)) ∙ parts.1

-- what a row has from a column on, by its first cell
module _ (calls : List Call) (kinds : List SqlType) (row : List Value) (first rows : ℕ) (v : Value) (told : Bool) (is : v ≡ cell row first) (count : IsTrue (is_row_count v)) (number : rows ≡ nat_abs (number_in v)) where
  rows-here : rows ≡ rows_in (drop first row)
  rows-here = number ∙ ap (λ (x : Value). nat_abs (number_in x)) (is ∙ first_cell row first)

  part-here : (columns : Bool) → told ≡ columns → columns ≡ (if nat_le (rows_in (drop first row)) most_group_rows then are_all_columns (rows_in (drop first row)) calls kinds (drop 1 (drop first row)) else are_null calls (drop 1 (drop first row)))
      → told ≡ is_partial calls kinds (drop first row)
  part-here columns e f =
      let part = drop first row in
      e ∙ f ∙ ap (λ (b : Bool). b && (if nat_le (rows_in part) most_group_rows then are_all_columns (rows_in part) calls kinds (drop 1 part) else are_null calls (drop 1 part)))
      (sym (ap is_row_count (sym (is ∙ first_cell row first)) ∙ count))

  pub few-told : rows ≤ most_group_rows → told ≡ are_all_columns rows calls kinds (drop (first + 1) row) → told ≡ is_partial calls kinds (drop first row)
  few-told few e =
      let part = drop first row in
      part-here (are_all_columns rows calls kinds (drop (first + 1) row)) e
      ((λ i. are_all_columns (rows-here i) calls kinds (behind_first row first i))
      ∙ ap (λ (b : Bool). if b then are_all_columns (rows_in part) calls kinds (drop 1 part) else are_null calls (drop 1 part)) (sym (le-leb (rows_in part) most_group_rows (omega (arith, few, rows-here)))))

  pub many-told : most_group_rows < rows → told ≡ are_null calls (drop (first + 1) row) → told ≡ is_partial calls kinds (drop first row)
  many-told many e =
      let part = drop first row in
      part-here (are_null calls (drop (first + 1) row)) e
      (ap (are_null calls) (behind_first row first)
      ∙ ap (λ (b : Bool). if b then are_all_columns (rows_in part) calls kinds (drop 1 part) else are_null calls (drop 1 part)) (sym (lt-leb (rows_in part) most_group_rows (omega (arith, many, rows-here)))))

-- whatever was merged in, the calls and what they add are the same
pub merge-stays : (ks now : List Kept) (columns : List Value) → now ≡ merged_each ks columns → (calls_of now ≡ calls_of ks) × (kinds_of now ≡ kinds_of ks)
merge-stays ks now columns e = (ap calls_of e ∙ calls-merged ks columns, ap kinds_of e ∙ kinds-merged ks columns)

pub add-stays : (ks now : List Kept) (row : List Value) → now ≡ map (added_row row) ks → (calls_of now ≡ calls_of ks) × (kinds_of now ≡ kinds_of ks)
add-stays ks now row e = merge-stays ks now (columns_of_row row ks) (e ∙ rows-merged row ks)

same-few : (ks now : List Kept) → calls_of now ≡ calls_of ks → length ks ≤ 2 ^ 20 → length now ≤ 2 ^ 20
same-few ks now same few = omega (arith, few, ap length same, length-map ks (λ (k : Kept). k.call), length-map now (λ (k : Kept). k.call))

module _ (a : ℕ) (ks now : List Kept) (g : Group) (view : group_kept a ks ≡ g) (is : IsGroup a ks) where
  takes-view : (row : List Value) → IsTrue (takes_row g.calls g.kinds row) → IsTrue (takes_row (calls_of ks) (kinds_of ks) row)
  takes-view row h = ap (λ (x : Group). takes_row x.calls x.kinds row) view ∙ h

  part-view : (part : List Value) → IsTrue (is_partial g.calls g.kinds part) → IsTrue (is_partial (calls_of ks) (kinds_of ks) part)
  part-view part h = ap (λ (x : Group). is_partial x.calls x.kinds part) view ∙ h

  pub can-add : (row : List Value) → a + 1 ≤ most_group_rows → IsTrue (takes_row g.calls g.kinds row) → All (CanAdd row) ks
  can-add row few h = row-can_add a row ks few (is.all_kept (omega (arith, few))) (takes-view row h)

  pub can-take : (row : List Value) → a + 1 ≤ most_group_rows → All (CanTake row) ks
  can-take row few = row-can_take a row ks few (is.all_kept (omega (arith, few)))

  pub group-added : (row : List Value) (rows : ℕ) → rows ≡ a + 1 → a + 1 ≤ most_group_rows → IsTrue (takes_row g.calls g.kinds row) → now ≡ map (added_row row) ks → IsGroup rows now
  group-added row rows e few h ok = record {
    few = omega (arith, e, few);
    few_calls = same-few ks now (add-stays ks now row ok).0 is.few_calls;
    all_kept = λ less. subst (λ (n : ℕ). All (IsKept n) now) (sym e)
        (All-same (IsKept (a + 1)) now (map (added_row row) ks) ok (row-kept a row ks (is.all_kept (omega (arith, few))) (takes-view row h)));
  }

  pub group-taken : (row : List Value) (rows : ℕ) → rows ≡ a + 1 → a + 1 ≤ most_group_rows → IsTrue (takes_row (calls_of ks) (kinds_of ks) row) → now ≡ map (added_row row) ks → IsGroup rows now
  group-taken row rows e few h ok = group-added row rows e few (ap (λ (x : Group). takes_row x.calls x.kinds row) (sym view) ∙ h) ok

  pub view-added : (row : List Value) (rows : ℕ) → rows ≡ a + 1 → a + 1 ≤ most_group_rows → now ≡ map (added_row row) ks → group_kept rows now ≡ with_row g row
  view-added row rows e few ok =
      (λ i. group_kept (e i) (ok i)) ∙ sym (row-added a ks row few (is.all_kept (omega (arith, few)))) ∙ ap (λ (x : Group). with_row x row) view

  pub can-merge : (part columns : List Value) → columns ≡ drop 1 part → a + rows_in part ≤ most_group_rows → IsTrue (is_partial g.calls g.kinds part) → CanMergeEach ks columns
  can-merge part columns e few h =
      subst (λ (cs : List Value). CanMergeEach ks cs) (sym e)
      (columns-can_merge a (rows_in part) ks (drop 1 part) few (is.all_kept (omega (arith, few))) (columns-of (calls_of ks) (kinds_of ks) part (omega (arith, few)) (part-view part h)))

  pub group-merged : (part columns : List Value) (rows : ℕ) → columns ≡ drop 1 part → rows ≡ a + rows_in part → a + rows_in part ≤ most_group_rows → IsTrue (is_partial g.calls g.kinds part)
      → now ≡ merged_each ks columns → IsGroup rows now
  group-merged part columns rows c e few h ok = record {
    few = omega (arith, e, few);
    few_calls = same-few ks now (merge-stays ks now columns ok).0 is.few_calls;
    all_kept = λ less. subst (λ (n : ℕ). All (IsKept n) now) (sym e)
        (All-same (IsKept (a + rows_in part)) now (merged_each ks (drop 1 part)) (ok ∙ ap (merged_each ks) c)
        (columns-kept a (rows_in part) ks (drop 1 part) (is.all_kept (omega (arith, few))) (columns-of (calls_of ks) (kinds_of ks) part (omega (arith, few)) (part-view part h))));
  }

  pub view-merged : (part columns : List Value) (rows : ℕ) → columns ≡ drop 1 part → rows ≡ a + rows_in part → a + rows_in part ≤ most_group_rows → now ≡ merged_each ks columns
      → group_kept rows now ≡ with_part g part
  view-merged part columns rows c e few ok =
      (λ i. group_kept (e i) ((ok ∙ ap (merged_each ks) c) i)) ∙ sym (part-merged a ks part few (is.all_kept (omega (arith, few)))) ∙ ap (λ (x : Group). with_part x part) view

  pub view-fits : IsTrue (is_partial g.calls g.kinds g.partial)
  view-fits = ap (λ (x : Group). is_partial x.calls x.kinds x.partial) (sym view) ∙ group-partial a ks is.few is.all_kept

  pub view-told : (types : List SqlType) (rows : List Kept) → rows ≡ ks → g.kinds ≡ map (kind_in types) g.calls → results_from types g.calls g.partial ≡ all_outcomes a rows
  view-told types rows same e =
      ap (λ (x : Group). results_from types x.calls x.partial) (sym view)
      ∙ results-told types a ks is.all_kept (ap (λ (x : Group). x.kinds) view ∙ e ∙ sym (ap (λ (x : Group). map (kind_in types) x.calls) view))
      ∙ ap (all_outcomes a) (sym same)

-- NULLs in place of the columns of one more call
pub nulls-more : (before now : List Value) (ks : List Kept) (i : ℕ) (k : Kept) (width : ℕ) → i < length ks → k ≡ get_or ks i k → width ≡ call_width k.call
    → now ≡ before ++ replicate (sum_by call_width (calls_of (take i ks))) Null
    → now ++ replicate width Null ≡ before ++ replicate (sum_by call_width (calls_of (take (i + 1) ks))) Null
nulls-more before now ks i k width lt is e h =
    let n = sum_by call_width (calls_of (take i ks)) in
    let more : take (i + 1) ks ≡ take i ks ++ k ∷ [] = take_more ks i k lt ∙ ap (λ x. take i ks ++ x ∷ []) (sym is) in
    let sum : sum_by call_width (calls_of (take (i + 1) ks)) ≡ n + width
    = ap (λ xs. sum_by call_width (calls_of xs)) more
    ∙ ap (sum_by call_width) (map-append (λ (x : Kept). x.call) (take i ks) (k ∷ []))
    ∙ sum_by-append call_width (calls_of (take i ks)) (k.call ∷ [])
    ∙ omega (arith, e) in
    ap (λ xs. xs ++ replicate width Null) h
    ∙ append_assoc before (replicate n Null) (replicate width Null)
    ∙ ap (λ xs. before ++ xs) (replicate-append-replicate n width Null)
    ∙ ap (λ m. before ++ replicate m Null) (sym sum)

-- the same of cells that are put into a row
pub nulls-put : (before now next : TypedRows) (ks : List Kept) (i : ℕ) (k : Kept) (width : ℕ) → i < length ks → k ≡ get_or ks i k → width ≡ call_width k.call
    → now ≡ record before { begun = before.begun ++ replicate (sum_by call_width (calls_of (take i ks))) Null }
    → next ≡ record now { begun = now.begun ++ replicate width Null }
    → next ≡ record before { begun = before.begun ++ replicate (sum_by call_width (calls_of (take (i + 1) ks))) Null }
nulls-put before now next ks i k width lt is e h put =
    put
    ∙ ap (λ (r : TypedRows). record r { begun = r.begun ++ replicate width Null }) h
    ∙ ap (λ (vs : List Value). record before { begun = vs }) (nulls-more before.begun (before.begun ++ replicate (sum_by call_width (calls_of (take i ks))) Null) ks i k width lt is e refl)
