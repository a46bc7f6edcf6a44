-- That there is room in memory for what is added to what is kept of a call.
use Rattle.std.proofs.Common.{◌≡◌, ℕ, ◌+◌, ◌*◌, ◌^◌, ◌≤◌, ◌<◌, List, [], ◌∷◌, length, refl, ap, sym, subst, ◌∙◌, arith}
use Rattle.std.specs.Prelude.{Option, ℤ, pos, filter, IsTrue}
use Rattle.std.proofs.lemmas.Bool.{and_parts}
use Rattle.sql_values.specs.declared.types.SqlType.{SqlType}
use Rattle.sql_values.specs.declared.value.Value.{Value}
use Rattle.sql_values.specs.declared.value.Value.TheVariants.{Bigint}
use Rattle.sql_values.specs.declared.relational.Call.TheVariants as call_is
use Rattle.sql_values.specs.Cells.{cell}
use Rattle.sql_functions.specs.CallTypes.{is_decimal}
use Rattle.relation_laws.specs.Aggregates.{count_of, most_group_rows}
use Rattle.relation_laws.specs.Equality.{is_present}
use Rattle.relation_laws.specs.Partials.{partial_sum}
use Rattle.accumulators.specs.declared.call_state.Held.{Held}
use Rattle.accumulators.specs.declared.call_state.Held.TheVariants.{Count, Sum, Avg}
use Rattle.accumulators.specs.Columns.{HasAverage, columns_of, count_in, magnitude, sum_cell, summand}
use Rattle.accumulators.specs.Held.{kept}
use Rattle.accumulators.specs.Kept.{Kept}
use Rattle.accumulators.specs.Limits.{CanMerge, CanTake, IsKept, can_add, counts_sum, greatest, is_count, is_number_of, is_short, is_sum}
use Rattle.accumulators.proofs.CellLemmas.{one_sum}
use Rattle.accumulators.proofs.KeptLemmas.{sum_parts}
use Rattle.accumulators.proofs.LimitLemmas.{count_is, count_within, greatest_small, has_average, room, sum_is, sum_within, summand-cell}

-- the same of what is held
pub cell_at_held : (held is : Held) (k : Kept) (v : Value) → kept held ≡ k → held ≡ is → CanMerge k (columns_of k.call (v ∷ [])) → CanMerge (kept is) (columns_of (kept is).call (v ∷ []))
cell_at_held held is k v view e m = subst (λ (x : Kept). CanMerge x (columns_of x.call (v ∷ []))) (sym view ∙ ap kept e) m

pub columns_at_held : (held is : Held) (k : Kept) (columns : List Value) → kept held ≡ k → held ≡ is → CanMerge k columns → CanMerge (kept is) columns
columns_at_held held is k columns view e m = subst (λ (x : Kept). CanMerge x columns) (sym view ∙ ap kept e) m

pub rows_at_held : (held is : Held) (k : Kept) (rows : ℕ) → kept held ≡ k → held ≡ is → IsKept rows k → IsKept rows (kept is)
rows_at_held held is k rows view e m = subst (λ (x : Kept). IsKept rows x) (sym view ∙ ap kept e) m

pub short_at_held : (held is : Held) → held ≡ is → IsTrue (can_add (kept held).kind (kept held).call) → IsTrue (can_add (kept is).kind (kept is).call)
short_at_held held is e h = subst (λ (x : Held). IsTrue (can_add (kept x).kind (kept x).call)) e h

pub short_average : (held : Held) (column : ℕ) (kind : SqlType) (sum : Option ℤ) (count : ℕ) → held ≡ Avg column kind sum count → IsTrue (can_add (kept held).kind (kept held).call)
    → IsTrue (is_short kind)
short_average held column kind sum count e h = (and_parts (is_decimal kind) (is_short kind) (short_at_held held (Avg column kind sum count) e h)).1

two_sums : (kind : SqlType) (own others : ℕ) (sum : Option ℤ) (v : Value) → IsTrue (is_short kind) → own + others ≤ most_group_rows
    → IsTrue (is_sum (own * greatest kind) (sum_cell sum)) → IsTrue (is_sum (others * greatest kind) v) → magnitude sum + magnitude (summand v) < 2 ^ 127
two_sums kind own others sum v short few h k =
    let g = greatest kind in
    let left : magnitude sum ≤ own * g = subst (λ (s : Option ℤ). magnitude s ≤ own * g) (summand-cell sum) (sum_within (own * g) (sum_cell sum) h) in
    let right : magnitude (summand v) ≤ others * g = sum_within (others * g) v k in
    let below : magnitude sum + magnitude (summand v) < 2 ^ 126 = room own others g (magnitude sum) (magnitude (summand v)) left right few (greatest_small kind short) in
    omega arith

two_counts : (own others count : ℕ) (v : Value) → own + others ≤ most_group_rows → IsTrue (is_count own (Bigint (pos count))) → IsTrue (is_count others v) → count + count_in v ≤ most_group_rows
two_counts own others count v few h k = omega (arith, count_within own (Bigint (pos count)) h, count_within others v k)

one_summand : (v : Value) → summand (partial_sum (filter is_present (v ∷ []))) ≡ summand v
one_summand v = ap summand (one_sum v) ∙ summand-cell (summand v)

pub count_and_cell : (column count : ℕ) (v : Value) → CanMerge (kept (Count column count)) (columns_of (call_is.Count column) (v ∷ []))
    → count + length (filter is_present (v ∷ [])) ≤ most_group_rows
count_and_cell column count v m = two_counts m.own m.others count (count_of (filter is_present (v ∷ []))) m.few m.is_kept.within m.is_merged

pub count_and_stored : (column count : ℕ) (columns : List Value) (v : Value) → v ≡ cell columns 0 → CanMerge (kept (Count column count)) columns
    → (count + count_in v ≤ most_group_rows) × (Bigint (pos (count_in v)) ≡ v)
count_and_stored column count columns v e m =
    let is : IsTrue (is_count m.others v) = ap (is_count m.others) e ∙ m.is_merged in
    (two_counts m.own m.others count v m.few m.is_kept.within is, count_is m.others v is)

pub sum_and_cell : (column : ℕ) (kind : SqlType) (sum : Option ℤ) (v : Value) → IsTrue (is_short kind) → CanMerge (kept (Sum column kind sum)) (columns_of (call_is.Sum column) (v ∷ []))
    → magnitude sum + magnitude (summand v) < 2 ^ 127
sum_and_cell column kind sum v short m =
    subst (λ (s : Option ℤ). magnitude sum + magnitude s < 2 ^ 127) (one_summand v)
    (two_sums kind m.own m.others sum (partial_sum (filter is_present (v ∷ []))) short m.few m.is_kept.within m.is_merged)

pub sum_and_stored : (column : ℕ) (kind : SqlType) (sum : Option ℤ) (columns : List Value) (v : Value) → v ≡ cell columns 0 → IsTrue (is_short kind) → CanMerge (kept (Sum column kind sum)) columns
    → (magnitude sum + magnitude (summand v) < 2 ^ 127) × (sum_cell (summand v) ≡ v)
sum_and_stored column kind sum columns v e short m =
    let is : IsTrue (is_sum (m.others * greatest kind) v) = ap (is_sum (m.others * greatest kind)) e ∙ m.is_merged in
    (two_sums kind m.own m.others sum v short m.few m.is_kept.within is, sum_is (m.others * greatest kind) v is)

pub average_and_cell : (column : ℕ) (kind : SqlType) (sum : Option ℤ) (count : ℕ) (v : Value) → IsTrue (is_short kind)
    → CanMerge (kept (Avg column kind sum count)) (columns_of (call_is.Avg column) (v ∷ []))
    → (magnitude sum + magnitude (summand v) < 2 ^ 127) × (count + length (filter is_present (v ∷ [])) ≤ most_group_rows)
average_and_cell column kind sum count v short m =
    let g = greatest kind in
    let one = partial_sum (filter is_present (v ∷ [])) in
    let ones = count_of (filter is_present (v ∷ [])) in
    let own = sum_parts m.own g (sum_cell sum) (Bigint (pos count)) m.is_kept.within in
    let other = sum_parts m.others g one ones m.is_merged in (
      subst (λ (s : Option ℤ). magnitude sum + magnitude s < 2 ^ 127) (one_summand v) (two_sums kind m.own m.others sum one short m.few own.1 other.1),
      two_counts m.own m.others count ones m.few own.0 other.0,
    )

pub average_and_stored : (column : ℕ) (kind : SqlType) (sum : Option ℤ) (count : ℕ) (columns : List Value) (v w : Value) → v ≡ cell columns 0 → w ≡ cell columns 1
    → IsTrue (is_short kind) → CanMerge (kept (Avg column kind sum count)) columns
    → (magnitude sum + magnitude (summand v) < 2 ^ 127) × (sum_cell (summand v) ≡ v) × (count + count_in w ≤ most_group_rows) × (Bigint (pos (count_in w)) ≡ w)
average_and_stored column kind sum count columns v w e f short m =
    let g = greatest kind in
    let own = sum_parts m.own g (sum_cell sum) (Bigint (pos count)) m.is_kept.within in
    let other = sum_parts m.others g (cell columns 0) (cell columns 1) m.is_merged in
    let sums : IsTrue (is_sum (m.others * g) v) = ap (is_sum (m.others * g)) e ∙ other.1 in
    let counts : IsTrue (is_count m.others w) = ap (is_count m.others) f ∙ other.0 in (
      two_sums kind m.own m.others sum v short m.few own.1 sums,
      sum_is (m.others * g) v sums,
      two_counts m.own m.others count w m.few own.0 counts,
      count_is m.others w counts,
    )

-- what is kept for an average has one
pub average_at : (rows column : ℕ) (kind : SqlType) (sum : Option ℤ) (count : ℕ) → IsTrue (is_short kind) → rows ≤ most_group_rows → IsKept rows (kept (Avg column kind sum count)) → HasAverage sum count
average_at rows column kind sum count short few m =
    let g = greatest kind in
    let parts = sum_parts rows g (sum_cell sum) (Bigint (pos count)) m.within in
    let tied : IsTrue (counts_sum g sum count) = subst (λ (s : Option ℤ). IsTrue (counts_sum g s count)) (summand-cell sum) parts.2 in
    let fewer : count ≤ rows = count_within rows (Bigint (pos count)) parts.0 in
    has_average g count sum tied (omega arith) (greatest_small kind short)

-- where a cell has a number of the type
pub taken_at_held : (held is : Held) (k : Kept) (row : List Value) → kept held ≡ k → held ≡ is → CanTake row k → CanTake row (kept is)
taken_at_held held is k row view e m = subst (λ (x : Kept). CanTake row x) (sym view ∙ ap kept e) m

pub count_taken : (column count : ℕ) (row : List Value) (v : Value) → v ≡ cell row column → CanTake row (kept (Count column count)) → count + length (filter is_present (v ∷ [])) ≤ most_group_rows
count_taken column count row v e m =
    subst (λ (x : Value). count + length (filter is_present (x ∷ [])) ≤ most_group_rows) (sym e) (count_and_cell column count (cell row column) (m refl))

pub sum_taken : (column : ℕ) (kind : SqlType) (sum : Option ℤ) (row : List Value) (v : Value) → v ≡ cell row column → IsTrue (is_short kind) → CanTake row (kept (Sum column kind sum))
    → IsTrue (is_number_of kind v) → magnitude sum + magnitude (summand v) < 2 ^ 127
sum_taken column kind sum row v e short m h =
    subst (λ (x : Value). magnitude sum + magnitude (summand x) < 2 ^ 127) (sym e)
    (sum_and_cell column kind sum (cell row column) short (m (ap (is_number_of kind) (sym e) ∙ h)))

pub average_taken : (column : ℕ) (kind : SqlType) (sum : Option ℤ) (count : ℕ) (row : List Value) (v : Value) → v ≡ cell row column → IsTrue (is_short kind)
    → CanTake row (kept (Avg column kind sum count)) → IsTrue (is_number_of kind v)
    → (magnitude sum + magnitude (summand v) < 2 ^ 127) × (count + length (filter is_present (v ∷ [])) ≤ most_group_rows)
average_taken column kind sum count row v e short m h =
    subst (λ (x : Value). (magnitude sum + magnitude (summand x) < 2 ^ 127) × (count + length (filter is_present (x ∷ [])) ≤ most_group_rows)) (sym e)
    (average_and_cell column kind sum count (cell row column) short (m (ap (is_number_of kind) (sym e) ∙ h)))
