-- What is kept stays within its bounds as cells and columns are merged in.
use Rattle.std.proofs.Common.{◌≡◌, ℕ, ◌+◌, ◌*◌, ◌≤◌, List, [], ◌∷◌, length, drop, map, refl, ap, sym, ◌∙◌, arith, add-mul}
use Rattle.std.specs.Prelude.{All, pos, nat_abs, ◌&&◌, filter, IsTrue}
use Rattle.std.proofs.lemmas.Bool.{and_from, and_parts, le-leb, leb-true}
use Rattle.std.proofs.lemmas.List.Elements.{All-cons, All-head, All-nil, All-tail}
use Rattle.sql_values.specs.declared.types.SqlType.{SqlType}
use Rattle.sql_values.specs.declared.value.Value.{Value}
use Rattle.sql_values.specs.declared.value.Value.TheVariants.{Null, Bigint}
use Rattle.sql_values.specs.declared.relational.Call.{Call}
use Rattle.sql_values.specs.declared.relational.Call.TheVariants.{CountAll, Count, Sum, Min, Max, Avg}
use Rattle.sql_values.specs.Cells.{cell}
use Rattle.sql_values.specs.Order.{number_in}
use Rattle.relation_laws.specs.Aggregates.{most_group_rows}
use Rattle.relation_laws.specs.Equality.{is_present}
use Rattle.relation_laws.specs.Partials.{added_counts, added_sums, call_width, merged_call}
use Rattle.accumulators.specs.Columns.{added, column_of, columns_of, count_in, magnitude, sum_cell, summand}
use Rattle.accumulators.specs.Kept.{Kept, added_row, calls_of, kinds_of, merged_each, merged_kept}
use Rattle.accumulators.specs.Limits.{CanAdd, CanMerge, CanMergeEach, CanTake, IsKept, are_all_columns, are_columns, are_sum_and_count, counts_sum, greatest, is_count, is_number_of, is_sum, takes_cell, takes_row}
use Rattle.accumulators.proofs.LimitLemmas.{count-fits, count_is, count_within, counts_sum-added, magnitude-added, sum_cell-fits, sum_is, sum_within, summand-cell}
use Rattle.accumulators.proofs.CellLemmas.{counts_added, one_sum, sums_added}
use Rattle.accumulators.proofs.ColumnLemmas.{width-merged}

counts-are : (a b : ℕ) (v w : Value) → IsTrue (is_count a v) → IsTrue (is_count b w) → added_counts v w ≡ Bigint (pos (count_in v + count_in w))
counts-are a b v w h k = (λ i. added_counts (sym (count_is a v h) i) (sym (count_is b w k) i)) ∙ counts_added (count_in v) (count_in w)

counts-fit : (a b : ℕ) (v w : Value) → IsTrue (is_count a v) → IsTrue (is_count b w) → IsTrue (is_count (a + b) (added_counts v w))
counts-fit a b v w h k =
    ap (is_count (a + b)) (counts-are a b v w h k)
    ∙ count-fits (a + b) (count_in v + count_in w) (omega (arith, count_within a v h, count_within b w k))

sums-are : (x y : ℕ) (v w : Value) → IsTrue (is_sum x v) → IsTrue (is_sum y w) → added_sums v w ≡ sum_cell (added (summand v) (summand w))
sums-are x y v w h k = (λ i. added_sums (sym (sum_is x v h) i) (sym (sum_is y w k) i)) ∙ sums_added (summand v) (summand w)

sums-fit : (x y most : ℕ) (v w : Value) → most ≡ x + y → IsTrue (is_sum x v) → IsTrue (is_sum y w) → IsTrue (is_sum most (added_sums v w))
sums-fit x y most v w e h k =
    ap (is_sum most) (sums-are x y v w h k)
    ∙ sum_cell-fits most (added (summand v) (summand w)) (omega (arith, magnitude-added (summand v) (summand w), sum_within x v h, sum_within y w k))

-- the three facts of a sum beside its count
pub sum_parts : (rows g : ℕ) (sum count : Value) → IsTrue (are_sum_and_count rows g sum count)
    → IsTrue (is_count rows count) × IsTrue (is_sum (rows * g) sum) × IsTrue (counts_sum g (summand sum) (count_in count))
sum_parts rows g sum count h =
    let outer = and_parts (is_count rows count && is_sum (rows * g) sum) (counts_sum g (summand sum) (count_in count)) h in
    let inner = and_parts (is_count rows count) (is_sum (rows * g) sum) outer.0 in
    (inner.0, inner.1, outer.1)

sum_whole : (rows g : ℕ) (sum count : Value) → IsTrue (is_count rows count) → IsTrue (is_sum (rows * g) sum)
    → IsTrue (counts_sum g (summand sum) (count_in count)) → IsTrue (are_sum_and_count rows g sum count)
sum_whole rows g sum count h k l =
    and_from (is_count rows count && is_sum (rows * g) sum) (counts_sum g (summand sum) (count_in count)) (and_from (is_count rows count) (is_sum (rows * g) sum) h k) l

averages-fit : (a b g : ℕ) (s c t d : Value) → IsTrue (are_sum_and_count a g s c) → IsTrue (are_sum_and_count b g t d)
    → IsTrue (are_sum_and_count (a + b) g (added_sums s t) (added_counts c d))
averages-fit a b g s c t d h k =
    let own = sum_parts a g s c h in
    let other = sum_parts b g t d k in
    let sums : added_sums s t ≡ sum_cell (added (summand s) (summand t)) = sums-are (a * g) (b * g) s t own.1 other.1 in
    let counts : added_counts c d ≡ Bigint (pos (count_in c + count_in d)) = counts-are a b c d own.0 other.0 in
    let tied : counts_sum g (summand (added_sums s t)) (count_in (added_counts c d)) ≡ counts_sum g (added (summand s) (summand t)) (count_in c + count_in d)
    = λ i. counts_sum g ((ap summand sums ∙ summand-cell (added (summand s) (summand t))) i) (ap count_in counts i) in
    sum_whole (a + b) g (added_sums s t) (added_counts c d) (counts-fit a b c d own.0 other.0)
    (sums-fit (a * g) (b * g) ((a + b) * g) s t (add-mul a b g) own.1 other.1)
    (tied ∙ counts_sum-added g (count_in c) (count_in d) (summand s) (summand t) own.2 other.2)

pub columns-fit : (a b : ℕ) (kind : SqlType) (call : Call) (p q : List Value) → IsTrue (are_columns a kind call p) → IsTrue (are_columns b kind call q)
    → IsTrue (are_columns (a + b) kind call (merged_call call p q))
columns-fit a b kind CountAll p q h k = refl
columns-fit a b kind (Count column) p q h k = counts-fit a b (cell p 0) (cell q 0) h k
columns-fit a b kind (Sum column) p q h k =
    sums-fit (a * greatest kind) (b * greatest kind) ((a + b) * greatest kind) (cell p 0) (cell q 0) (add-mul a b (greatest kind)) h k
columns-fit a b kind (Min column) p q h k = refl
columns-fit a b kind (Max column) p q h k = refl
columns-fit a b kind (Avg column) p q h k = averages-fit a b (greatest kind) (cell p 0) (cell p 1) (cell q 0) (cell q 1) h k

pub kept-merged : (a b : ℕ) (k : Kept) (columns : List Value) → IsKept a k → IsTrue (are_columns b k.kind k.call columns) → IsKept (a + b) (merged_kept k columns)
kept-merged a b k columns h l = record {
  width = width-merged k.call k.columns columns;
  within = columns-fit a b k.kind k.call k.columns columns h.within l;
}

-- one cell that a call can take
one_counted : (v : Value) → length (filter is_present (v ∷ [])) ≤ 1
one_counted Null = omega arith
one_counted v = omega arith

summand-small : (kind : SqlType) (v : Value) → IsTrue (is_number_of kind v) → magnitude (summand v) ≤ greatest kind
summand-small kind Null h = omega arith
summand-small kind v h = leb-true (nat_abs (number_in v)) (greatest kind) h

one_tied : (g : ℕ) (v : Value) → magnitude (summand v) ≤ g → IsTrue (counts_sum g (summand v) (length (filter is_present (v ∷ []))))
one_tied g Null h = refl
one_tied g v h = le-leb (nat_abs (number_in v)) (1 * g) (omega arith)

pub cell-fits : (kind : SqlType) (call : Call) (v : Value) → IsTrue (takes_cell kind call v) → IsTrue (are_columns 1 kind call (columns_of call (v ∷ [])))
cell-fits kind CountAll v h = refl
cell-fits kind (Count column) v h = count-fits 1 (length (filter is_present (v ∷ []))) (one_counted v)
cell-fits kind (Sum column) v h =
    ap (is_sum (1 * greatest kind)) (one_sum v) ∙ sum_cell-fits (1 * greatest kind) (summand v) (omega (arith, summand-small kind v h))
cell-fits kind (Min column) v h = refl
cell-fits kind (Max column) v h = refl
cell-fits kind (Avg column) v h =
    let g = greatest kind in
    let count = Bigint (pos (length (filter is_present (v ∷ [])))) in
    let small : magnitude (summand v) ≤ g = summand-small kind v h in
    ap (λ s. are_sum_and_count 1 g s count) (one_sum v)
    ∙ sum_whole 1 g (sum_cell (summand v)) count (count-fits 1 (length (filter is_present (v ∷ []))) (one_counted v))
    (sum_cell-fits (1 * g) (summand v) (omega arith))
    (ap (λ s. counts_sum g s (length (filter is_present (v ∷ [])))) (summand-cell (summand v)) ∙ one_tied g v small)

-- a row that all calls can take
pub row-can_add : (rows : ℕ) (row : List Value) (ks : List Kept) → rows + 1 ≤ most_group_rows → All (IsKept rows) ks → IsTrue (takes_row (calls_of ks) (kinds_of ks) row) → All (CanAdd row) ks
row-can_add rows row [] few all h = All-nil (CanAdd row)
row-can_add rows row (k ∷ ks) few all h =
    let v = cell row (column_of k.call) in
    let parts = and_parts (takes_cell k.kind k.call v) (takes_row (calls_of ks) (kinds_of ks) row) h in
    let here : CanAdd row k = record { own = rows; others = 1; few = few; is_kept = All-head (IsKept rows) k ks all; is_merged = cell-fits k.kind k.call v parts.0 } in
    All-cons (CanAdd row) k ks here (row-can_add rows row ks few (All-tail (IsKept rows) k ks all) parts.1)

-- and one of which each can take the cell, if its number has the type
pub row-can_take : (rows : ℕ) (row : List Value) (ks : List Kept) → rows + 1 ≤ most_group_rows → All (IsKept rows) ks → All (CanTake row) ks
row-can_take rows row [] few all = All-nil (CanTake row)
row-can_take rows row (k ∷ ks) few all =
    let here : CanTake row k = λ h. record { own = rows; others = 1; few = few; is_kept = All-head (IsKept rows) k ks all; is_merged = cell-fits k.kind k.call (cell row (column_of k.call)) h } in
    All-cons (CanTake row) k ks here (row-can_take rows row ks few (All-tail (IsKept rows) k ks all))

pub row-kept : (rows : ℕ) (row : List Value) (ks : List Kept) → All (IsKept rows) ks → IsTrue (takes_row (calls_of ks) (kinds_of ks) row) → All (IsKept (rows + 1)) (map (added_row row) ks)
row-kept rows row [] all h = All-nil (IsKept (rows + 1))
row-kept rows row (k ∷ ks) all h =
    let v = cell row (column_of k.call) in
    let parts = and_parts (takes_cell k.kind k.call v) (takes_row (calls_of ks) (kinds_of ks) row) h in
    All-cons (IsKept (rows + 1)) (added_row row k) (map (added_row row) ks)
    (kept-merged rows 1 k (columns_of k.call (v ∷ [])) (All-head (IsKept rows) k ks all) (cell-fits k.kind k.call v parts.0))
    (row-kept rows row ks (All-tail (IsKept rows) k ks all) parts.1)

-- columns that all calls can take
pub columns-can_merge : (a b : ℕ) (ks : List Kept) (columns : List Value) → a + b ≤ most_group_rows → All (IsKept a) ks
    → IsTrue (are_all_columns b (calls_of ks) (kinds_of ks) columns) → CanMergeEach ks columns
columns-can_merge a b [] columns few all h = tt
columns-can_merge a b (k ∷ ks) columns few all h =
    let rest = drop (call_width k.call) columns in
    let parts = and_parts (are_columns b k.kind k.call columns) (are_all_columns b (calls_of ks) (kinds_of ks) rest) h in
    let here : CanMerge k columns = record { own = a; others = b; few = few; is_kept = All-head (IsKept a) k ks all; is_merged = parts.0 } in
    (here, columns-can_merge a b ks rest few (All-tail (IsKept a) k ks all) parts.1)

pub columns-kept : (a b : ℕ) (ks : List Kept) (columns : List Value) → All (IsKept a) ks
    → IsTrue (are_all_columns b (calls_of ks) (kinds_of ks) columns) → All (IsKept (a + b)) (merged_each ks columns)
columns-kept a b [] columns all h = All-nil (IsKept (a + b))
columns-kept a b (k ∷ ks) columns all h =
    let rest = drop (call_width k.call) columns in
    let parts = and_parts (are_columns b k.kind k.call columns) (are_all_columns b (calls_of ks) (kinds_of ks) rest) h in
    All-cons (IsKept (a + b)) (merged_kept k columns) (merged_each ks rest)
    (kept-merged a b k columns (All-head (IsKept a) k ks all) parts.0)
    (columns-kept a b ks rest (All-tail (IsKept a) k ks all) parts.1)
