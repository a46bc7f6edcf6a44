-- The partial rows of the groups of typed rows have the types of their layout.
use Rattle.std.proofs.Common.{◌≡◌, ℕ, ◌+◌, ◌^◌, ◌<◌, ◌≤◌, List, [], ◌∷◌, ◌++◌, length, map, replicate, Bool, true, false, if◌then◌else◌, nat_le, pos, append_assoc, refl, sym, subst, ◌∙◌, arith, lit<}
use Rattle.std.specs.Prelude.{IsTrue, flat_map, sum_by}
use Rattle.std.proofs.lemmas.Bool.{and_parts, leb-true}
use Rattle.std.proofs.lemmas.List.{length-append}
use Rattle.std.proofs.lemmas.List.Sums.{sum_by-cons}
use Rattle.sql_values.specs.declared.types.SqlType.{SqlType}
use Rattle.sql_values.specs.declared.types.SqlType.TheVariants as type
use Rattle.sql_values.specs.declared.value.Value.{Value}
use Rattle.sql_values.specs.declared.value.Value.TheVariants.{Null, Decimal}
use Rattle.sql_values.specs.declared.order.Order.TheVariants.{Ascending, Descending}
use Rattle.sql_values.specs.declared.relational.Call.{Call}
use Rattle.sql_values.specs.declared.relational.Call.TheVariants.{CountAll, Count, Sum, Min, Max, Avg}
use Rattle.sql_values.specs.Types.{row_has_types, rows_have_types}
use Rattle.sql_functions.specs.CallTypes.{is_decimal, type_at}
use Rattle.relation_laws.specs.Aggregates.{count_of, first_by, most_group_rows, values_in}
use Rattle.relation_laws.specs.Groups.{group_of, keys_of}
use Rattle.relation_laws.specs.Partials.{call_columns, call_width, overfull, partial_of, partial_sum}
use Rattle.relation_laws.proofs.WidthLemmas.{All-each}
use Rattle.bag_laws.specs.Pieces.{partials_of}
use Rattle.accumulators.specs.Columns.{column_of}
use Rattle.accumulators.specs.Limits.{are_allowed, can_add, is_short}
use Rattle.plan_trees.specs.Layouts.{call_layout, layout_types, sum_layout}
use Rattle.group_type_laws.proofs.TypeLemmas.{AreOf, IsOf, append-are_of, next-are_of, null-is_of, nulls-are_of}
use Rattle.group_type_laws.proofs.DigitLemmas.{decimal-is_of, full_digits}
use Rattle.group_type_laws.proofs.SumLemmas.{AllOf, AllPresent, total-is_of}
use Rattle.group_type_laws.proofs.GroupLemmas.{RowsAreOf, count-is_of, first-is_of, group-is_of, keys-are_of, rows_from_test, test_from_rows, values-are_of, values-few, values-present}

-- the types of the columns of the calls, and of a partial row without its key
abbrev columns_types : List SqlType → List Call → List SqlType
columns_types types calls = flat_map (call_layout types) calls

abbrev part_types : List SqlType → List Call → List SqlType
part_types types calls = type.Decimal 38 0 ∷ columns_types types calls

layout-width : (types : List SqlType) (call : Call) → length (call_layout types call) ≡ call_width call
layout-width types CountAll = refl
layout-width types (Count column) = refl
layout-width types (Sum column) = refl
layout-width types (Min column) = refl
layout-width types (Max column) = refl
layout-width types (Avg column) = refl

columns-width : (types : List SqlType) (calls : List Call) → length (columns_types types calls) ≡ sum_by call_width calls
columns-width types [] = refl
columns-width types (call ∷ calls) =
    length-append (call_layout types call) (columns_types types calls) ∙ (λ i. layout-width types call i + columns-width types calls i)
    ∙ sym (sum_by-cons call_width call calls)

-- the columns of the calls, of a group that has not too many rows
one-is_of : (kind : SqlType) (v : Value) → IsOf kind v → AreOf (kind ∷ []) (v ∷ [])
one-is_of kind v h = next-are_of kind [] v [] h refl

sum-column : (kind : SqlType) (vs : List Value) → IsTrue (is_short kind) → length vs ≤ most_group_rows → AllOf kind vs → AllPresent vs → IsOf (sum_layout kind) (partial_sum vs)
sum-column kind [] short few h present = null-is_of (sum_layout kind)
sum-column kind (v ∷ vs) short few h present = total-is_of kind v vs short few h present

module _ (types : List SqlType) (rows : List (List Value)) (h : RowsAreOf types rows) (few : length rows ≤ most_group_rows) where
  sum-of : (column : ℕ) → IsTrue (is_short (type_at types column)) → IsOf (sum_layout (type_at types column)) (partial_sum (values_in column rows))
  sum-of column short =
      let vs = values_in column rows in
      sum-column (type_at types column) vs short (omega (arith, few, values-few column rows)) (values-are_of types column rows h) (values-present column rows)

  count-column : (column : ℕ) → IsOf type.Bigint (count_of (values_in column rows))
  count-column column = count-is_of (length (values_in column rows)) (omega (arith, few, values-few column rows))

  columns-are_of : (call : Call) → IsTrue (can_add (type_at types (column_of call)) call) → AreOf (call_layout types call) (call_columns rows call)
  columns-are_of CountAll can = refl
  columns-are_of (Count column) can = one-is_of type.Bigint (count_of (values_in column rows)) (count-column column)
  columns-are_of (Sum column) can = one-is_of (sum_layout (type_at types column)) (partial_sum (values_in column rows)) (sum-of column can)
  columns-are_of (Min column) can =
      one-is_of (type_at types column) (first_by Ascending (values_in column rows)) (first-is_of (type_at types column) Ascending (values_in column rows) (values-are_of types column rows h))
  columns-are_of (Max column) can =
      one-is_of (type_at types column) (first_by Descending (values_in column rows)) (first-is_of (type_at types column) Descending (values_in column rows) (values-are_of types column rows h))
  columns-are_of (Avg column) can =
      let short = (and_parts (is_decimal (type_at types column)) (is_short (type_at types column)) can).1 in
      next-are_of (sum_layout (type_at types column)) (type.Bigint ∷ []) (partial_sum (values_in column rows)) (count_of (values_in column rows) ∷ []) (sum-of column short)
      (one-is_of type.Bigint (count_of (values_in column rows)) (count-column column))

  all_columns-are_of : (calls : List Call) → IsTrue (are_allowed types calls) → AreOf (columns_types types calls) (flat_map (call_columns rows) calls)
  all_columns-are_of [] can = refl
  all_columns-are_of (call ∷ calls) can =
      let parts = and_parts (can_add (type_at types (column_of call)) call) (are_allowed types calls) can in
      append-are_of (call_layout types call) (columns_types types calls) (call_columns rows call) (flat_map (call_columns rows) calls)
      (columns-are_of call parts.0) (all_columns-are_of calls parts.1)

rows-is_of : (n : ℕ) → n ≤ 2 ^ 63 → IsOf (type.Decimal 38 0) (Decimal (pos n))
rows-is_of n few =
    let top : 2 ^ 63 < 10 ^ 38 = lit< tt in
    decimal-is_of 38 0 (pos n) (full_digits 0 (omega arith)) (omega arith)

overfull-is_of : (types : List SqlType) (calls : List Call) → AreOf (part_types types calls) (overfull calls)
overfull-is_of types calls =
    next-are_of (type.Decimal 38 0) (columns_types types calls) (Decimal (pos (2 ^ 63))) (replicate (sum_by call_width calls) Null) (rows-is_of (2 ^ 63) (omega arith))
    (subst (λ (n : ℕ). AreOf (columns_types types calls) (replicate n Null)) (columns-width types calls) (nulls-are_of (columns_types types calls)))

partial-is_of : (types : List SqlType) (calls : List Call) (rows : List (List Value)) → IsTrue (are_allowed types calls) → RowsAreOf types rows → AreOf (part_types types calls) (partial_of calls rows)
partial-is_of types calls rows can h = by_rows (nat_le (length rows) most_group_rows) refl
  where
    by_rows : (b : Bool) → nat_le (length rows) most_group_rows ≡ b → AreOf (part_types types calls) (if b then Decimal (pos (length rows)) ∷ flat_map (call_columns rows) calls else overfull calls)
    by_rows true e =
        let few : length rows ≤ most_group_rows = leb-true (length rows) most_group_rows e in
        next-are_of (type.Decimal 38 0) (columns_types types calls) (Decimal (pos (length rows))) (flat_map (call_columns rows) calls) (rows-is_of (length rows) (omega (arith, few)))
        (all_columns-are_of types rows h few calls can)
    by_rows false e = overfull-is_of types calls

pub partials_keep : (types : List SqlType) (calls : List Call) (rows : List (List Value)) → IsTrue (are_allowed types calls) → IsTrue (rows_have_types types rows)
    → IsTrue (row_has_types (type.Decimal 38 0 ∷ flat_map (call_layout types) calls) (partial_of calls rows))
partials_keep types calls rows can h = partial-is_of types calls rows can (rows_from_test types rows h)

-- each behind its key
keyed-are_of : (types : List SqlType) (columns : List ℕ) (calls : List Call) (rows : List (List Value)) → IsTrue (are_allowed types calls) → RowsAreOf types rows
    → RowsAreOf (map (type_at types) columns ++ part_types types calls) (partials_of columns calls rows)
keyed-are_of types columns calls rows can h =
    let kinds = map (type_at types) columns in
    All-each (AreOf kinds) (AreOf (kinds ++ part_types types calls)) (λ key. key ++ partial_of calls (group_of columns rows key))
    (λ key is. append-are_of kinds (part_types types calls) key (partial_of calls (group_of columns rows key)) is
    (partial-is_of types calls (group_of columns rows key) can (group-is_of types columns rows key h)))
    (keys_of columns rows) (keys-are_of types columns rows h)

pub keyed_partials_keep : (types : List SqlType) (keys : List ℕ) (calls : List Call) (rows : List (List Value)) → IsTrue (are_allowed types calls) → IsTrue (rows_have_types types rows)
    → IsTrue (rows_have_types (layout_types (map (type_at types) keys) types calls) (partials_of keys calls rows))
keyed_partials_keep types keys calls rows can h =
    let kinds = map (type_at types) keys in
    let layout : layout_types kinds types calls ≡ kinds ++ part_types types calls = append_assoc kinds (type.Decimal 38 0 ∷ []) (columns_types types calls) in
    test_from_rows (layout_types kinds types calls) (partials_of keys calls rows)
    (subst (λ (ts : List SqlType). RowsAreOf ts (partials_of keys calls rows)) (sym layout) (keyed-are_of types keys calls rows can (rows_from_test types rows h)))
