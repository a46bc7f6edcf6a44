-- Typed rows, and the partial rows of typed rows, pass what a group asks of the rows that come.
use Rattle.std.proofs.Common.{◌≡◌, ℕ, ◌*◌, ◌^◌, ◌<◌, ◌≤◌, List, [], ◌∷◌, ◌++◌, length, map, drop, true, if◌then◌else◌, ◌&&◌, nat_le, int_le, nat_abs, pos, ◌⊎◌, inl, inr, refl, ap, ◌∙◌, arith, drop_at, mul-le-mul_right}
use Rattle.std.specs.Prelude.{IsTrue, flat_map}
use Rattle.std.specs.List.{list_all}
use Rattle.std.proofs.lemmas.Bool.{and_from, cases_lt, le-leb}
use Rattle.std.proofs.lemmas.List.{length-map}
use Rattle.std.proofs.lemmas.List.Sums.{list_all-from_AllPass}
use Rattle.sql_values.specs.declared.types.SqlType.{SqlType}
use Rattle.sql_values.specs.declared.value.Value.{Value}
use Rattle.sql_values.specs.declared.relational.Call.{Call}
use Rattle.sql_values.specs.declared.relational.Call.TheVariants.{CountAll, Count, Sum, Min, Max, Avg}
use Rattle.sql_values.specs.Cells.{cell}
use Rattle.sql_values.specs.Order.{number_in}
use Rattle.sql_values.specs.Types.{row_has_types, rows_have_types}
use Rattle.sql_functions.specs.CallTypes.{type_at}
use Rattle.relation_laws.specs.Aggregates.{count_of, most_group_rows, total_of, values_in}
use Rattle.relation_laws.specs.Groups.{group_of, keys_of}
use Rattle.relation_laws.specs.Partials.{call_columns, call_width, partial_of, partial_sum}
use Rattle.relation_laws.proofs.PartialLemmas.{beyond_most, within_most}
use Rattle.relation_laws.proofs.WidthLemmas.{All-each}
use Rattle.bag_laws.specs.Pieces.{partials_of}
use Rattle.accumulators.specs.Columns.{column_of, count_in, kind_in, summand}
use Rattle.accumulators.specs.Limits.{are_all_columns, are_columns, are_null, counts_sum, greatest, is_count, is_partial, is_sum, takes_cell, takes_row}
use Rattle.accumulators.proofs.GroupLemmas.{overfull-null}
use Rattle.accumulators.proofs.LimitLemmas.{count-fits}
use Rattle.aggregation.specs.Layouts.{Layout, is_layout_row}
use Rattle.group_type_laws.proofs.TypeLemmas.{AreOf, cell-is_of, width-are_of}
use Rattle.group_type_laws.proofs.SumLemmas.{AllOf, number_within, total_within}
use Rattle.group_type_laws.proofs.GroupLemmas.{RowsAreOf, group-is_of, keys-are_of, rows_from_test, values-are_of, values-few}

-- a row
cell-taken : (types : List SqlType) (call : Call) (row : List Value) → AreOf types row → IsTrue (takes_cell (kind_in types call) call (cell row (column_of call)))
cell-taken types CountAll row h = refl
cell-taken types (Count column) row h = refl
cell-taken types (Sum column) row h =
    le-leb (nat_abs (number_in (cell row column))) (greatest (type_at types column)) (number_within (type_at types column) (cell row column) (cell-is_of types row column h))
cell-taken types (Min column) row h = refl
cell-taken types (Max column) row h = refl
cell-taken types (Avg column) row h =
    le-leb (nat_abs (number_in (cell row column))) (greatest (type_at types column)) (number_within (type_at types column) (cell row column) (cell-is_of types row column h))

pub typed_rows_are_taken : (types : List SqlType) (calls : List Call) (row : List Value) → row_has_types types row ≡ true → IsTrue (takes_row calls (map (kind_in types) calls) row)
typed_rows_are_taken types [] row h = refl
typed_rows_are_taken types (call ∷ calls) row h =
    and_from (takes_cell (kind_in types call) call (cell row (column_of call))) (takes_row calls (map (kind_in types) calls) row)
    (cell-taken types call row h) (typed_rows_are_taken types calls row h)

-- the columns of a call, of a group of at most so many rows
sum-within : (kind : SqlType) (rows : ℕ) (vs : List Value) → length vs ≤ rows → AllOf kind vs → IsTrue (is_sum (rows * greatest kind) (partial_sum vs))
sum-within kind rows [] few h = refl
sum-within kind rows (v ∷ vs) few h =
    let g = greatest kind in
    let most : length (v ∷ vs) * g ≤ rows * g = mul-le-mul_right g few in
    le-leb (nat_abs (total_of (v ∷ vs))) (rows * g) (omega (arith, most, total_within kind (v ∷ vs) h))

sum-counted : (kind : SqlType) (vs : List Value) → AllOf kind vs → IsTrue (counts_sum (greatest kind) (summand (partial_sum vs)) (length vs))
sum-counted kind [] h = refl
sum-counted kind (v ∷ vs) h =
    let g = greatest kind in
    let count = length (v ∷ vs) in
    and_from (nat_le 1 count) (nat_le (nat_abs (total_of (v ∷ vs))) (count * g))
    (le-leb 1 count (omega arith)) (le-leb (nat_abs (total_of (v ∷ vs))) (count * g) (total_within kind (v ∷ vs) h))

module _ (types : List SqlType) (rows : List (List Value)) (h : RowsAreOf types rows) where
  columns-taken : (call : Call) (more : List Value) → IsTrue (are_columns (length rows) (kind_in types call) call (call_columns rows call ++ more))
  columns-taken CountAll more = refl
  columns-taken (Count column) more = count-fits (length rows) (length (values_in column rows)) (values-few column rows)
  columns-taken (Sum column) more = sum-within (type_at types column) (length rows) (values_in column rows) (values-few column rows) (values-are_of types column rows h)
  columns-taken (Min column) more = refl
  columns-taken (Max column) more = refl
  columns-taken (Avg column) more =
      let kind = type_at types column in
      let n = length rows in
      let vs = values_in column rows in
      and_from (is_count n (count_of vs) && is_sum (n * greatest kind) (partial_sum vs)) (counts_sum (greatest kind) (summand (partial_sum vs)) (count_in (count_of vs)))
      (and_from (is_count n (count_of vs)) (is_sum (n * greatest kind) (partial_sum vs)) (count-fits n (length vs) (values-few column rows))
      (sum-within kind n vs (values-few column rows) (values-are_of types column rows h)))
      (sum-counted kind vs (values-are_of types column rows h))

  behind : (call : Call) (more : List Value) → drop (call_width call) (call_columns rows call ++ more) ≡ more
  behind CountAll more = refl
  behind (Count column) more = refl
  behind (Sum column) more = refl
  behind (Min column) more = refl
  behind (Max column) more = refl
  behind (Avg column) more = refl

  all_columns-taken : (calls : List Call) → IsTrue (are_all_columns (length rows) calls (map (kind_in types) calls) (flat_map (call_columns rows) calls))
  all_columns-taken [] = refl
  all_columns-taken (call ∷ calls) =
      let kinds = map (kind_in types) calls in
      let more = flat_map (call_columns rows) calls in
      and_from (are_columns (length rows) (kind_in types call) call (call_columns rows call ++ more))
      (are_all_columns (length rows) calls kinds (drop (call_width call) (call_columns rows call ++ more)))
      (columns-taken call more) (ap (are_all_columns (length rows) calls kinds) (behind call more) ∙ all_columns-taken calls)

  partial-taken : (calls : List Call) → IsTrue (is_partial calls (map (kind_in types) calls) (partial_of calls rows))
  partial-taken calls = by_rows (cases_lt most_group_rows (length rows))
    where
      by_rows : (most_group_rows < length rows) ⊎ (length rows ≤ most_group_rows) → IsTrue (is_partial calls (map (kind_in types) calls) (partial_of calls rows))
      by_rows (inl many) = ap (is_partial calls (map (kind_in types) calls)) (beyond_most calls (length rows) (flat_map (call_columns rows) calls) many) ∙ overfull-null calls
      by_rows (inr few) =
          let n = length rows in
          let kinds = map (kind_in types) calls in
          let columns = flat_map (call_columns rows) calls in
          ap (is_partial calls kinds) (within_most calls n columns few)
          ∙ and_from (int_le (pos 0) (pos n) && nat_le n (2 ^ 63)) (if nat_le n most_group_rows then are_all_columns n calls kinds columns else are_null calls columns)
          (and_from (int_le (pos 0) (pos n)) (nat_le n (2 ^ 63)) (le-leb 0 n (omega arith)) (le-leb n (2 ^ 63) (omega (arith, few))))
          (ap (λ b. if b then are_all_columns n calls kinds columns else are_null calls columns) (le-leb n most_group_rows few) ∙ all_columns-taken calls)

pub typed_partials_are_taken : (types : List SqlType) (calls : List Call) (rows : List (List Value)) → IsTrue (rows_have_types types rows)
    → IsTrue (is_partial calls (map (kind_in types) calls) (partial_of calls rows))
typed_partials_are_taken types calls rows h = partial-taken types rows (rows_from_test types rows h) calls

-- the partial rows that a half gives, each behind its key
pub keyed_partials_are_taken : (types : List SqlType) (keys : List ℕ) (calls : List Call) (rows : List (List Value)) → IsTrue (rows_have_types types rows)
    → IsTrue (list_all (is_layout_row (record { width = length keys; types = types; calls = calls })) (partials_of keys calls rows))
keyed_partials_are_taken types keys calls rows h =
    let layout : Layout = record { width = length keys; types = types; calls = calls } in
    let kinds = map (type_at types) keys in
    let all = rows_from_test types rows h in
    let part : List Value → List Value = λ key. partial_of calls (group_of keys rows key) in
    list_all-from_AllPass (is_layout_row layout) (partials_of keys calls rows)
    (All-each (AreOf kinds) (λ row. is_layout_row layout row ≡ true) (λ key. key ++ part key)
    (λ key is.
    let width : length key ≡ length keys = width-are_of kinds key is ∙ length-map keys (type_at types) in
    ap (is_partial calls (map (kind_in types) calls)) (drop_at key (part key) (length keys) width)
    ∙ partial-taken types (group_of keys rows key) (group-is_of types keys rows key all) calls)
    (keys_of keys rows) (keys-are_of types keys rows all))
