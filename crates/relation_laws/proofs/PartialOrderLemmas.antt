-- Partial rows and results do not depend on the order of the rows.
use Rattle.std.proofs.Common.{◌≡◌, List, [], ◌∷◌, ◌++◌, refl, ap, sym, ◌∙◌, drop}
use Rattle.std.proofs.Math.IntN.{+ℤ_comm}
use Rattle.std.proofs.Math.Nat.{add_comm}
use Rattle.std.specs.Prelude.{IsPermutation}
use Rattle.sql_values.specs.declared.types.SqlType.{SqlType}
use Rattle.sql_values.specs.declared.value.Value.{Value}
use Rattle.sql_values.specs.declared.value.Value.TheVariants.{Null, Bigint, Decimal}
use Rattle.sql_values.specs.declared.order.Order.TheVariants.{Ascending, Descending}
use Rattle.sql_values.specs.declared.relational.Call.{Call}
use Rattle.sql_values.specs.declared.relational.Call.TheVariants.{CountAll, Count, Sum, Min, Max, Avg}
use Rattle.sql_values.specs.Cells.{cell}
use Rattle.sql_values.specs.Order.{number_in}
use Rattle.relation_laws.specs.Equality.{same_row}
use Rattle.relation_laws.specs.Aggregates.{aggregates_of}
use Rattle.relation_laws.specs.Partials.{added_counts, added_sums, call_width, merged, merged_call, merged_calls, partial_of, results_from, rows_in, with_rows}
use Rattle.relation_laws.proofs.BagLemmas.{by_permutation}
use Rattle.relation_laws.proofs.EqualityLemmas.{same_row_decides}
use Rattle.relation_laws.proofs.FirstLemmas.{earlier_comm}
use Rattle.relation_laws.proofs.PartialLemmas.{partial_of-append, results_from-partial_of}

added_counts_comm : (v w : Value) → added_counts v w ≡ added_counts w v
added_counts_comm v w = ap Bigint (+ℤ_comm (number_in v) (number_in w))

added_sums_comm : (v w : Value) → added_sums v w ≡ added_sums w v
added_sums_comm Null Null = refl
added_sums_comm Null w = refl
added_sums_comm v Null = refl
added_sums_comm v w = ap Decimal (+ℤ_comm (number_in v) (number_in w))

merged_call_comm : (call : Call) (p q : List Value) → merged_call call p q ≡ merged_call call q p
merged_call_comm CountAll p q = refl
merged_call_comm (Count column) p q = ap (λ v. v ∷ []) (added_counts_comm (cell p 0) (cell q 0))
merged_call_comm (Sum column) p q = ap (λ v. v ∷ []) (added_sums_comm (cell p 0) (cell q 0))
merged_call_comm (Min column) p q = ap (λ v. v ∷ []) (earlier_comm Ascending (cell p 0) (cell q 0))
merged_call_comm (Max column) p q = ap (λ v. v ∷ []) (earlier_comm Descending (cell p 0) (cell q 0))
merged_call_comm (Avg column) p q = λ i. added_sums_comm (cell p 0) (cell q 0) i ∷ added_counts_comm (cell p 1) (cell q 1) i ∷ []

merged_calls_comm : (calls : List Call) (p q : List Value) → merged_calls calls p q ≡ merged_calls calls q p
merged_calls_comm [] p q = refl
merged_calls_comm (call ∷ calls) p q =
    λ i. merged_call_comm call p q i ++ merged_calls_comm calls (drop (call_width call) p) (drop (call_width call) q) i

pub merged_comm : (calls : List Call) (p q : List Value) → merged calls p q ≡ merged calls q p
merged_comm calls p q = λ i. with_rows calls (add_comm (rows_in p) (rows_in q) i) (merged_calls_comm calls (drop 1 p) (drop 1 q) i)

module _ (calls : List Call) where
  partial_cons : (r : List Value) (rows : List (List Value)) → partial_of calls (r ∷ rows) ≡ merged calls (partial_of calls (r ∷ [])) (partial_of calls rows)
  partial_cons r rows = partial_of-append calls (r ∷ []) rows

  swapped : (r s : List Value) (rows : List (List Value)) → partial_of calls (r ∷ s ∷ rows) ≡ partial_of calls (s ∷ r ∷ rows)
  swapped r s rows =
      partial_of-append calls (r ∷ s ∷ []) rows
      ∙ ap (λ p. merged calls p (partial_of calls rows))
      (partial_cons r (s ∷ []) ∙ merged_comm calls (partial_of calls (r ∷ [])) (partial_of calls (s ∷ [])) ∙ sym (partial_cons s (r ∷ [])))
      ∙ sym (partial_of-append calls (s ∷ r ∷ []) rows)

  followed : (r : List Value) (rows others : List (List Value)) → partial_of calls rows ≡ partial_of calls others → partial_of calls (r ∷ rows) ≡ partial_of calls (r ∷ others)
  followed r rows others e = partial_cons r rows ∙ ap (merged calls (partial_of calls (r ∷ []))) e ∙ sym (partial_cons r others)

  pub partial_of-same : (rows others : List (List Value)) → IsPermutation rows others → partial_of calls rows ≡ partial_of calls others
  partial_of-same rows others same = by_permutation same_row same_row_decides (partial_of calls) swapped followed rows others same

  pub aggregates_of-same : (types : List SqlType) (rows others : List (List Value)) → IsPermutation rows others → aggregates_of types calls rows ≡ aggregates_of types calls others
  aggregates_of-same types rows others same =
      sym (results_from-partial_of types calls rows) ∙ ap (results_from types calls) (partial_of-same rows others same) ∙ results_from-partial_of types calls others
