-- Merging partial rows: in any order, and in any grouping, whatever the rows hold.
use Rattle.std.proofs.Common.{◌≡◌, ℕ, ◌+◌, ◌<◌, ◌≤◌, List, [], ◌∷◌, ◌++◌, refl, ap, sym, ◌∙◌, arith, drop, ◌⊎◌, inl, inr}
use Rattle.std.specs.Prelude.{◌^◌, IsPermutation}
use Rattle.std.proofs.Math.IntN.{+ℤ_assoc}
use Rattle.std.proofs.lemmas.Bool.{cases_lt}
use Rattle.sql_values.specs.declared.value.Value.{Value}
use Rattle.sql_values.specs.declared.value.Value.TheVariants.{Null, Bigint, Decimal}
use Rattle.sql_values.specs.declared.order.Order.TheVariants.{Ascending, Descending}
use Rattle.sql_values.specs.declared.relational.Call.{Call}
use Rattle.sql_values.specs.declared.relational.Call.TheVariants.{CountAll, Count, Sum, Min, Max, Avg}
use Rattle.sql_values.specs.Cells.{cell}
use Rattle.sql_values.specs.Order.{number_in}
use Rattle.relation_laws.specs.Aggregates.{most_group_rows}
use Rattle.relation_laws.specs.Equality.{same_row}
use Rattle.relation_laws.specs.Partials.{added_counts, added_sums, call_width, merged, merged_call, merged_calls, rows_in, with_rows}
use Rattle.relation_laws.proofs.BagLemmas.{by_permutation}
use Rattle.relation_laws.proofs.EqualityLemmas.{same_row_decides}
use Rattle.relation_laws.proofs.FirstLemmas.{earlier_assoc}
use Rattle.relation_laws.proofs.PartialLemmas.{within_most, beyond_most}
use Rattle.relation_laws.proofs.PartialOrderLemmas.{merged_comm}
use Rattle.bag_laws.specs.Pieces.{all_merged}

added_counts_assoc : (u v w : Value) → added_counts (added_counts u v) w ≡ added_counts u (added_counts v w)
added_counts_assoc u v w = ap Bigint (+ℤ_assoc (number_in u) (number_in v) (number_in w))

added_sums_assoc : (u v w : Value) → added_sums (added_sums u v) w ≡ added_sums u (added_sums v w)
added_sums_assoc Null v w = refl
added_sums_assoc u Null w = refl
added_sums_assoc u v Null = refl
added_sums_assoc u v w = ap Decimal (+ℤ_assoc (number_in u) (number_in v) (number_in w))

-- one call's columns, with more behind them
merged_call_assoc : (call : Call) (p q r u v : List Value) → merged_call call (merged_call call p q ++ u) r ≡ merged_call call p (merged_call call q r ++ v)
merged_call_assoc CountAll p q r u v = refl
merged_call_assoc (Count column) p q r u v = ap (λ x. x ∷ []) (added_counts_assoc (cell p 0) (cell q 0) (cell r 0))
merged_call_assoc (Sum column) p q r u v = ap (λ x. x ∷ []) (added_sums_assoc (cell p 0) (cell q 0) (cell r 0))
merged_call_assoc (Min column) p q r u v = ap (λ x. x ∷ []) (earlier_assoc Ascending (cell p 0) (cell q 0) (cell r 0))
merged_call_assoc (Max column) p q r u v = ap (λ x. x ∷ []) (earlier_assoc Descending (cell p 0) (cell q 0) (cell r 0))
merged_call_assoc (Avg column) p q r u v =
    λ i. added_sums_assoc (cell p 0) (cell q 0) (cell r 0) i ∷ added_counts_assoc (cell p 1) (cell q 1) (cell r 1) i ∷ []

behind_merged : (call : Call) (p q u : List Value) → drop (call_width call) (merged_call call p q ++ u) ≡ u
behind_merged CountAll p q u = refl
behind_merged (Count column) p q u = refl
behind_merged (Sum column) p q u = refl
behind_merged (Min column) p q u = refl
behind_merged (Max column) p q u = refl
behind_merged (Avg column) p q u = refl

merged_calls_assoc : (calls : List Call) (p q r : List Value) → merged_calls calls (merged_calls calls p q) r ≡ merged_calls calls p (merged_calls calls q r)
merged_calls_assoc [] p q r = refl
merged_calls_assoc (call ∷ calls) p q r =
    let w = call_width call in
    let first = merged_calls calls (drop w p) (drop w q) in
    let last = merged_calls calls (drop w q) (drop w r) in
    let rest : merged_calls calls (drop w (merged_call call p q ++ first)) (drop w r) ≡ merged_calls calls (drop w p) (drop w (merged_call call q r ++ last))
    = ap (λ x. merged_calls calls x (drop w r)) (behind_merged call p q first) ∙ merged_calls_assoc calls (drop w p) (drop w q) (drop w r)
    ∙ ap (merged_calls calls (drop w p)) (sym (behind_merged call q r last)) in
    λ i. merged_call_assoc call p q r first last i ++ rest i

-- how many rows a merge stands for
rows_within : (calls : List Call) (p q : List Value) → rows_in p + rows_in q ≤ most_group_rows → rows_in (merged calls p q) ≡ rows_in p + rows_in q
rows_within calls p q h = ap rows_in (within_most calls (rows_in p + rows_in q) (merged_calls calls (drop 1 p) (drop 1 q)) h)

rows_beyond : (calls : List Call) (p q : List Value) → most_group_rows < rows_in p + rows_in q → rows_in (merged calls p q) ≡ 2 ^ 63
rows_beyond calls p q h = ap rows_in (beyond_most calls (rows_in p + rows_in q) (merged_calls calls (drop 1 p) (drop 1 q)) h)

columns_within : (calls : List Call) (p q : List Value) → rows_in p + rows_in q ≤ most_group_rows → drop 1 (merged calls p q) ≡ merged_calls calls (drop 1 p) (drop 1 q)
columns_within calls p q h = ap (drop 1) (within_most calls (rows_in p + rows_in q) (merged_calls calls (drop 1 p) (drop 1 q)) h)

still_beyond : (calls : List Call) (p q : List Value) (more : ℕ) → most_group_rows < more + (rows_in p + rows_in q)
    → (most_group_rows < rows_in p + rows_in q) ⊎ (rows_in p + rows_in q ≤ most_group_rows) → most_group_rows < more + rows_in (merged calls p q)
still_beyond calls p q more h (inl gt) = omega (arith, rows_beyond calls p q gt)
still_beyond calls p q more h (inr le) = omega (arith, rows_within calls p q le, h)

assoc_at : (calls : List Call) (p q r : List Value) → (most_group_rows < rows_in p + (rows_in q + rows_in r)) ⊎ (rows_in p + (rows_in q + rows_in r) ≤ most_group_rows)
    → merged calls (merged calls p q) r ≡ merged calls p (merged calls q r)
assoc_at calls p q r (inl gt) =
    let left : most_group_rows < rows_in r + rows_in (merged calls p q) = still_beyond calls p q (rows_in r) (omega (arith, gt)) (cases_lt most_group_rows (rows_in p + rows_in q)) in
    let right : most_group_rows < rows_in p + rows_in (merged calls q r) = still_beyond calls q r (rows_in p) gt (cases_lt most_group_rows (rows_in q + rows_in r)) in
    beyond_most calls (rows_in (merged calls p q) + rows_in r) (merged_calls calls (drop 1 (merged calls p q)) (drop 1 r)) (omega (arith, left))
    ∙ sym (beyond_most calls (rows_in p + rows_in (merged calls q r)) (merged_calls calls (drop 1 p) (drop 1 (merged calls q r))) right)
assoc_at calls p q r (inr le) =
    let first : rows_in p + rows_in q ≤ most_group_rows = omega (arith, le) in
    let last : rows_in q + rows_in r ≤ most_group_rows = omega (arith, le) in
    let rows : rows_in (merged calls p q) + rows_in r ≡ rows_in p + rows_in (merged calls q r) = omega (arith, rows_within calls p q first, rows_within calls q r last) in
    let columns : merged_calls calls (drop 1 (merged calls p q)) (drop 1 r) ≡ merged_calls calls (drop 1 p) (drop 1 (merged calls q r))
    = ap (λ x. merged_calls calls x (drop 1 r)) (columns_within calls p q first) ∙ merged_calls_assoc calls (drop 1 p) (drop 1 q) (drop 1 r)
    ∙ ap (merged_calls calls (drop 1 p)) (sym (columns_within calls q r last)) in
    λ i. with_rows calls (rows i) (columns i)

pub merged_assoc : (calls : List Call) (p q r : List Value) → merged calls (merged calls p q) r ≡ merged calls p (merged calls q r)
merged_assoc calls p q r = assoc_at calls p q r (cases_lt most_group_rows (rows_in p + (rows_in q + rows_in r)))

swaps : (calls : List Call) (p q : List Value) (partials : List (List Value)) → all_merged calls (p ∷ q ∷ partials) ≡ all_merged calls (q ∷ p ∷ partials)
swaps calls p q partials =
    let rest = all_merged calls partials in
    sym (merged_assoc calls p q rest) ∙ ap (λ x. merged calls x rest) (merged_comm calls p q) ∙ merged_assoc calls q p rest

pub all_merged-same : (calls : List Call) (partials others : List (List Value)) → IsPermutation partials others → all_merged calls partials ≡ all_merged calls others
all_merged-same calls partials others s =
    by_permutation same_row same_row_decides (all_merged calls) (swaps calls) (λ p xs ys e. ap (merged calls p) e) partials others s
