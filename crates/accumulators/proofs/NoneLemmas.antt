-- The partial row of no row adds nothing.
use Rattle.std.proofs.Common.{◌≡◌, ℕ, ◌+◌, ◌^◌, ◌<◌, ◌≤◌, List, [], ◌∷◌, ◌++◌, length, refl, ap, sym, ◌∙◌, arith, drop_at, ◌⊎◌, inl, inr}
use Rattle.std.specs.Prelude.{All, IsTrue, flat_map, pos}
use Rattle.std.proofs.lemmas.Bool.{cases_lt}
use Rattle.std.proofs.lemmas.List.Elements.{All-head, All-tail}
use Rattle.sql_values.specs.declared.types.SqlType.{SqlType}
use Rattle.sql_values.specs.declared.value.Value.{Value}
use Rattle.sql_values.specs.declared.value.Value.TheVariants.{Null, Bigint}
use Rattle.sql_values.specs.declared.order.Order.TheVariants.{Ascending, Descending}
use Rattle.sql_values.specs.declared.relational.Call.{Call}
use Rattle.sql_values.specs.declared.relational.Call.TheVariants.{CountAll, Count, Sum, Min, Max, Avg}
use Rattle.relation_laws.specs.Aggregates.{earlier, most_group_rows}
use Rattle.relation_laws.specs.Partials.{added_counts, added_sums, call_columns, call_width, merged_call, partial_of}
use Rattle.accumulators.specs.Columns.{count_in}
use Rattle.accumulators.specs.Kept.{Kept, calls_of, merged_each}
use Rattle.accumulators.specs.Limits.{IsKept, are_columns, greatest, is_count}
use Rattle.accumulators.specs.Groups.{Group, IsGroup, group_kept, with_part}
use Rattle.accumulators.proofs.LimitLemmas.{count_is}
use Rattle.accumulators.proofs.CellLemmas.{counts_added}
use Rattle.accumulators.proofs.KeptLemmas.{sum_parts}
use Rattle.accumulators.proofs.GroupLemmas.{none-width, part-merged, part-overfull}

sums-none : (v : Value) → added_sums v Null ≡ v
sums-none Null = refl
sums-none v = refl

counts-none : (rows : ℕ) (v : Value) → IsTrue (is_count rows v) → added_counts v (Bigint (pos 0)) ≡ v
counts-none rows v h =
    ap (λ u. added_counts u (Bigint (pos 0))) (sym (count_is rows v h)) ∙ counts_added (count_in v) 0
    ∙ ap (λ n. Bigint (pos n)) (omega arith) ∙ count_is rows v h

least-none : (v : Value) → earlier Ascending v Null ≡ v
least-none Null = refl
least-none v = refl

most-none : (v : Value) → earlier Descending v Null ≡ v
most-none Null = refl
most-none v = refl

columns-none : (rows : ℕ) (kind : SqlType) (call : Call) (p more : List Value) → length p ≡ call_width call → IsTrue (are_columns rows kind call p)
    → merged_call call p (call_columns [] call ++ more) ≡ p
columns-none rows kind CountAll [] more w h = refl
columns-none rows kind CountAll (v ∷ p) more w h = absurd (omega (arith, w))
columns-none rows kind (Count column) [] more w h = absurd (omega (arith, w))
columns-none rows kind (Count column) (v ∷ []) more w h = ap (λ u. u ∷ []) (counts-none rows v h)
columns-none rows kind (Count column) (v ∷ u ∷ p) more w h = absurd (omega (arith, w))
columns-none rows kind (Sum column) [] more w h = absurd (omega (arith, w))
columns-none rows kind (Sum column) (v ∷ []) more w h = ap (λ u. u ∷ []) (sums-none v)
columns-none rows kind (Sum column) (v ∷ u ∷ p) more w h = absurd (omega (arith, w))
columns-none rows kind (Min column) [] more w h = absurd (omega (arith, w))
columns-none rows kind (Min column) (v ∷ []) more w h = ap (λ u. u ∷ []) (least-none v)
columns-none rows kind (Min column) (v ∷ u ∷ p) more w h = absurd (omega (arith, w))
columns-none rows kind (Max column) [] more w h = absurd (omega (arith, w))
columns-none rows kind (Max column) (v ∷ []) more w h = ap (λ u. u ∷ []) (most-none v)
columns-none rows kind (Max column) (v ∷ u ∷ p) more w h = absurd (omega (arith, w))
columns-none rows kind (Avg column) [] more w h = absurd (omega (arith, w))
columns-none rows kind (Avg column) (v ∷ []) more w h = absurd (omega (arith, w))
columns-none rows kind (Avg column) (v ∷ u ∷ []) more w h =
    let parts = sum_parts rows (greatest kind) v u h in
    λ i. sums-none v i ∷ counts-none rows u parts.0 i ∷ []
columns-none rows kind (Avg column) (v ∷ u ∷ x ∷ p) more w h = absurd (omega (arith, w))

each-none : (rows : ℕ) (ks : List Kept) → All (IsKept rows) ks → merged_each ks (flat_map (call_columns []) (calls_of ks)) ≡ ks
each-none rows [] all = refl
each-none rows (k ∷ ks) all =
    let is = All-head (IsKept rows) k ks all in
    let more = flat_map (call_columns []) (calls_of ks) in
    let here = columns-none rows k.kind k.call k.columns more is.width is.within in
    let rest = ap (merged_each ks) (drop_at (call_columns [] k.call) more (call_width k.call) (none-width k.call)) ∙ each-none rows ks (All-tail (IsKept rows) k ks all) in
    λ i. record { call = k.call; kind = k.kind; columns = here i } ∷ rest i

none-at : (a : ℕ) (ks : List Kept) → IsGroup a ks → (most_group_rows < a) ⊎ (a ≤ most_group_rows) → with_part (group_kept a ks) (partial_of (calls_of ks) []) ≡ group_kept a ks
none-at a ks is (inl gt) =
    let full : 2 ^ 63 ≡ a = omega (arith, gt, is.few) in
    part-overfull a ks ks (partial_of (calls_of ks) []) is.few (omega (arith, gt)) refl refl ∙ ap (λ n. group_kept n ks) full
none-at a ks is (inr le) =
    part-merged a ks (partial_of (calls_of ks) []) (omega (arith, le)) (is.all_kept le)
    ∙ (λ i. group_kept (sum-none a i) (each-none a ks (is.all_kept le) i))
  where
    sum-none : (n : ℕ) → n + 0 ≡ n
    sum-none n = omega arith

pub none-added : (a : ℕ) (ks : List Kept) (g : Group) → group_kept a ks ≡ g → IsGroup a ks → with_part g (partial_of g.calls []) ≡ g
none-added a ks g view is =
    ap (λ (x : Group). with_part x (partial_of x.calls [])) (sym view) ∙ none-at a ks is (cases_lt most_group_rows a) ∙ view
