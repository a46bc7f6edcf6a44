-- That there is room for what is added in the group at a place.
use Rattle.std.proofs.Common.{◌≡◌, ℕ, ◌+◌, ◌^◌, ◌<◌, List, [], ◌∷◌, length, get_or, map, ap, sym, subst, ◌∙◌, arith}
use Rattle.std.specs.Prelude.{Option, None, ℤ, pos, filter, IsTrue}
use Rattle.std.proofs.lemmas.Bool.{and_parts}
use Rattle.std.proofs.lemmas.List.{get_or-map, length-map}
use Rattle.std.specs.Global.{Vec}
use Rattle.sql_values.specs.declared.types.SqlType.{SqlType}
use Rattle.sql_values.specs.declared.value.Value.{Value}
use Rattle.sql_values.specs.declared.value.Value.TheVariants.{Bigint}
use Rattle.sql_values.specs.declared.relational.Call.{Call}
use Rattle.sql_values.specs.declared.relational.Call.TheVariants as call_is
use Rattle.sql_values.specs.Cells.{cell}
use Rattle.sql_functions.specs.CallTypes.{is_decimal}
use Rattle.relation_laws.specs.Equality.{is_present}
use Rattle.accumulators.specs.declared.averages.Average.{Average}
use Rattle.accumulators.specs.declared.call_column.HeldColumn.{HeldColumn}
use Rattle.accumulators.specs.declared.call_column.HeldColumn.TheVariants.{Sum, Avg}
use Rattle.accumulators.specs.Columns.{HasAverage, count_in, magnitude, sum_cell, summand}
use Rattle.accumulators.specs.HeldColumns.{held_column}
use Rattle.accumulators.specs.HeldStates.{HasRoom, average_columns, no_average, sum_columns}
use Rattle.accumulators.specs.Kept.{Kept}
use Rattle.accumulators.specs.KeptColumns.{CanMergeAt, CanTakeAt, IsKeptAt, KeptColumn, kept_at}
use Rattle.accumulators.specs.Limits.{CanMerge, CanTake, IsKept, can_add, is_number_of, is_short}
use Rattle.accumulators.proofs.HeldLemmas.{average_and_stored, average_at, average_taken, sum_and_stored, sum_taken}

-- the same of what is held
pub at_held : (P : KeptColumn → Type 0) (held is : HeldColumn) (k : KeptColumn) → held_column held ≡ k → held ≡ is → P k → P (held_column is)
at_held P held is k view e h = subst P (sym view ∙ ap held_column e) h

-- and of what was held before, and is now
pub from_branch : (P : KeptColumn → KeptColumn → Type 0) (held was now is : HeldColumn) (k : KeptColumn) → held_column held ≡ k → held ≡ was → now ≡ is
    → P (held_column is) (held_column was) → P (held_column now) k
from_branch P held was now is k view e f h =
    subst (λ (x : KeptColumn). P (held_column now) x) (ap held_column (sym e) ∙ view)
    (subst (λ (x : HeldColumn). P (held_column x) (held_column was)) (sym f) h)

pub short_sum : (held : HeldColumn) (column : ℕ) (kind : SqlType) (sums : Vec (Option ℤ)) → held ≡ Sum column kind sums → IsTrue (can_add (held_column held).kind (held_column held).call) → IsTrue (is_short kind)
short_sum held column kind sums e h = subst (λ (x : HeldColumn). IsTrue (can_add (held_column x).kind (held_column x).call)) e h

pub short_averages : (held : HeldColumn) (column : ℕ) (kind : SqlType) (averages : Vec Average) → held ≡ Avg column kind averages → IsTrue (can_add (held_column held).kind (held_column held).call) → IsTrue (is_short kind)
short_averages held column kind averages e h =
    (and_parts (is_decimal kind) (is_short kind) (subst (λ (x : HeldColumn). IsTrue (can_add (held_column x).kind (held_column x).call)) e h)).1

module _ {X : Type 0} (f : X → List Value) (items : List X) (place : ℕ) (d : X) (call : Call) (kind : SqlType) (lt : place < length (map f items)) where
  kept-there : kept_at place (record { call = call; kind = kind; kept = map f items }) ≡ record { call = call; kind = kind; columns = f (get_or items place d) }
  kept-there = let within : place < length items = omega (arith, lt, length-map items f) in λ i. record { call = call; kind = kind; columns = get_or-map f items place d [] within i }

module _ (place column : ℕ) (kind : SqlType) (sums : List (Option ℤ)) (short : IsTrue (is_short kind)) where
  abbrev pub sums_kept : KeptColumn
  sums_kept = record { call = call_is.Sum column; kind = kind; kept = map sum_columns sums }

  pub sum_taken_at : (row : List Value) (v : Value) → v ≡ cell row column → CanTakeAt place row sums_kept → IsTrue (is_number_of kind v)
      → magnitude (get_or sums place None) + magnitude (summand v) < 2 ^ 127
  sum_taken_at row v is can h =
      sum_taken column kind (get_or sums place None) row v is short
      (subst (λ (k : Kept). CanTake row k) (kept-there sum_columns sums place None (call_is.Sum column) kind can.within) can.can) h

  pub sum_merged_at : (columns : List Value) (v : Value) → v ≡ cell columns 0 → CanMergeAt place columns sums_kept
      → (magnitude (get_or sums place None) + magnitude (summand v) < 2 ^ 127) × (sum_cell (summand v) ≡ v)
  sum_merged_at columns v is can =
      sum_and_stored column kind (get_or sums place None) columns v is short
      (subst (λ (k : Kept). CanMerge k columns) (kept-there sum_columns sums place None (call_is.Sum column) kind can.within) can.can)

module _ (place column : ℕ) (kind : SqlType) (averages : List Average) (short : IsTrue (is_short kind)) where
  abbrev pub averages_kept : KeptColumn
  averages_kept = record { call = call_is.Avg column; kind = kind; kept = map average_columns averages }

  pub average_taken_at : (row : List Value) (v : Value) → v ≡ cell row column → CanTakeAt place row averages_kept → IsTrue (is_number_of kind v)
      → HasRoom (get_or averages place no_average) (summand v) (length (filter is_present (v ∷ [])))
  average_taken_at row v is can h =
      let a = get_or averages place no_average in
      average_taken column kind a.sum a.count row v is short
      (subst (λ (k : Kept). CanTake row k) (kept-there average_columns averages place no_average (call_is.Avg column) kind can.within) can.can) h

  pub average_merged_at : (columns : List Value) (v w : Value) → v ≡ cell columns 0 → w ≡ cell columns 1 → CanMergeAt place columns averages_kept
      → HasRoom (get_or averages place no_average) (summand v) (count_in w) × (sum_cell (summand v) ≡ v) × (Bigint (pos (count_in w)) ≡ w)
  average_merged_at columns v w is also can =
      let a = get_or averages place no_average in
      let all = average_and_stored column kind a.sum a.count columns v w is also short
      (subst (λ (k : Kept). CanMerge k columns) (kept-there average_columns averages place no_average (call_is.Avg column) kind can.within) can.can) in
      ((all.0, all.2), all.1, all.3)

  pub average_there : (rows : ℕ) (x : Average) → x ≡ get_or averages place x → IsKeptAt place rows averages_kept → HasAverage x.sum x.count
  average_there rows x is m =
      average_at rows column kind x.sum x.count short m.few
      (subst (λ (k : Kept). IsKept rows k)
      (kept-there average_columns averages place x (call_is.Avg column) kind m.within ∙ (λ i. record { call = call_is.Avg column; kind = kind; columns = average_columns (sym is i) })) m.kept)
