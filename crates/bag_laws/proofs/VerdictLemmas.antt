-- Failures and kept rows of verdicts: of bags, of gathered lists, and by bucket.
use Rattle.std.proofs.Common.{◌≡◌, ℕ, ◌+◌, ◌<◌, zero, suc, List, [], ◌∷◌, ◌++◌, Bool, true, refl, sym, arith, map, subst, take, drop}
use Rattle.std.specs.Prelude.{filter, flat_map, if◌then◌else◌, Result, Ok, Err}
use Rattle.std.specs.Bool.{Decides}
use Rattle.std.proofs.lemmas.List.Folds.{flat_map-map}
use Rattle.std.proofs.lemmas.List.Sums.{sum_by-append}
use Rattle.sql_values.specs.declared.types.SqlType.{SqlType}
use Rattle.sql_values.specs.declared.value.Value.{Value}
use Rattle.sql_values.specs.declared.fail.Fail.{Fail}
use Rattle.sql_values.specs.declared.relational.Call.{Call}
use Rattle.sql_values.specs.Cells.{cut}
use Rattle.relation_laws.specs.Aggregates.{aggregates_of}
use Rattle.relation_laws.specs.Equality.{same_row}
use Rattle.relation_laws.specs.Groups.{distinct, grouped_row, groups_of}
use Rattle.relation_laws.specs.Partials.{results_from}
use Rattle.relation_laws.specs.Verdicts.{Verdict, failures, is_failure, kept, kept_rows}
use Rattle.relation_laws.proofs.EqualityLemmas.{same_row_decides}
use Rattle.bag_laws.specs.Weights.{SameWeights}
use Rattle.bag_laws.specs.Gather.{gather}
use Rattle.bag_laws.specs.Buckets.{Sits}
use Rattle.bag_laws.specs.Grouping.{grouped}
use Rattle.bag_laws.specs.Pieces.{all_merged, finals_of}
use Rattle.bag_laws.proofs.BagLemmas.{same-flat_map}
use Rattle.bag_laws.proofs.GatherLemmas.{gather-flat_map, weight-gather-le}
use Rattle.bag_laws.proofs.BucketLemmas.{sits-cons, sits-flat_map, sits-map, sits-nil}
use Rattle.bag_laws.proofs.DistinctLemmas.{sits-distinct}

pub same-failures : {A B : List Verdict} → SameWeights A B → failures A ≡ failures B
same-failures s = s.weighs (λ v. if is_failure v then 1 else 0)

pub same-kept : {A B : List Verdict} → SameWeights A B → SameWeights (flat_map kept A) (flat_map kept B)
same-kept s = same-flat_map kept s

pub failures-append : (A B : List Verdict) → failures (A ++ B) ≡ failures A + failures B
failures-append A B = sum_by-append (λ v. if is_failure v then 1 else 0) A B

-- nothing fails where nothing fails in any task
pub failures-gather_none : (n : ℕ) (lists : ℕ → List Verdict) → ((k : ℕ) → k < n → failures (lists k) ≡ 0) → failures (gather n lists) ≡ 0
failures-gather_none zero lists each = refl
failures-gather_none (suc n) lists each =
    omega (arith, failures-append (gather n lists) (lists n), failures-gather_none n lists (λ k lt. each k (omega arith)), each n (omega arith))

pub failures-task_none : (n : ℕ) (lists : ℕ → List Verdict) → failures (gather n lists) ≡ 0 → (k : ℕ) → k < n → failures (lists k) ≡ 0
failures-task_none n lists none k lt = omega (arith, weight-gather-le (λ v. if is_failure v then 1 else 0) n lists k lt, none)

-- the tasks' rows are judged one by one
pub kept_rows-gather : (judge : List Value → Verdict) (n : ℕ) (lists : ℕ → List (List Value)) → kept_rows judge (gather n lists) ≡ gather n (λ k. kept_rows judge (lists k))
kept_rows-gather judge n lists = gather-flat_map n (λ row. kept (judge row)) lists

pub same-kept_rows : (judge : List Value → Verdict) {A B : List (List Value)} → SameWeights A B → SameWeights (kept_rows judge A) (kept_rows judge B)
same-kept_rows judge s = same-flat_map (λ row. kept (judge row)) s

pub sits-kept_rows : (p q : List Value → Bool) (judge : List Value → Verdict) → ((row : List Value) → p row ≡ true → Sits q (kept (judge row)))
    → (rows : List (List Value)) → Sits p rows → Sits q (kept_rows judge rows)
sits-kept_rows p q judge each rows s = sits-flat_map p q (λ row. kept (judge row)) each rows s

-- what is said of all keys, and of what each gives, holds of the rows of the groups
module _ {X K : Type 0} (same : K → K → Bool) (decides : (x y : K) → Decides (same x y) (x ≡ y)) (key : X → K) (result : K → List X → Verdict) where
  pub sits-grouped : (p : X → Bool) (r : K → Bool) (q : List Value → Bool)
      → ((x : X) → p x ≡ true → r (key x) ≡ true) → ((k : K) (items : List X) → r k ≡ true → Sits q (kept (result k items)))
      → (A : List X) → Sits p A → Sits q (flat_map kept (grouped same key result A))
  sits-grouped p r q to_key to_row A s =
      subst (Sits q) (sym (flat_map-map kept (λ k. result k (filter (λ x. same k (key x)) A)) (distinct same (map key A))))
      (sits-flat_map r q (λ k. kept (result k (filter (λ x. same k (key x)) A))) (λ k e. to_row k (filter (λ x. same k (key x)) A) e) (distinct same (map key A))
      (sits-distinct same decides r (map key A) (sits-map p r key to_key A s)))

sits-grouped_row : (q : List Value → Bool) (key : List Value) (results : Result (List Value) Fail) → ((values : List Value) → q (key ++ values) ≡ true) → Sits q (kept (grouped_row key results))
sits-grouped_row q key (Ok values) each = sits-cons q (key ++ values) [] (each values) (sits-nil q)
sits-grouped_row q key (Err kind) each = sits-nil q

-- a test of rows, seen in their keys, and in the groups' rows
module _ (types : List SqlType) (calls : List Call) (p r q : List Value → Bool) (to_row : (key values : List Value) → r key ≡ true → q (key ++ values) ≡ true) where
  pub sits-groups_of : (column : ℕ) (columns : List ℕ) → ((row : List Value) → p row ≡ true → r (cut (column ∷ columns) row) ≡ true)
      → (rows : List (List Value)) → Sits p rows → Sits q (flat_map kept (groups_of types (column ∷ columns) calls rows))
  sits-groups_of column columns to_key rows s =
      sits-grouped same_row same_row_decides (cut (column ∷ columns)) (λ key G. grouped_row key (aggregates_of types calls G)) p r q to_key
      (λ key G e. sits-grouped_row q key (aggregates_of types calls G) (λ values. to_row key values e)) rows s

  pub sits-finals_of : (width : ℕ) → ((row : List Value) → p row ≡ true → r (take (suc width) row) ≡ true)
      → (rows : List (List Value)) → Sits p rows → Sits q (flat_map kept (finals_of types (suc width) calls rows))
  sits-finals_of width to_key rows s =
      sits-grouped same_row same_row_decides (take (suc width)) (λ key G. grouped_row key (results_from types calls (all_merged calls (map (drop (suc width)) G)))) p r q to_key
      (λ key G e. sits-grouped_row q key (results_from types calls (all_merged calls (map (drop (suc width)) G))) (λ values. to_row key values e)) rows s
