-- Groups of bags, and groups whose keys are cut into buckets.
use Rattle.std.proofs.Common.{◌≡◌, ℕ, ◌<◌, List, [], ◌∷◌, Bool, ap, sym, ◌∙◌, map}
use Rattle.std.specs.Prelude.{filter, ◌==◌}
use Rattle.std.specs.Bool.{Decides}
use Rattle.std.proofs.lemmas.List.Elements.{filter_agree}
use Rattle.sql_values.specs.declared.types.SqlType.{SqlType}
use Rattle.sql_values.specs.declared.value.Value.{Value}
use Rattle.sql_values.specs.declared.relational.Call.{Call}
use Rattle.sql_values.specs.Cells.{cut}
use Rattle.relation_laws.specs.Aggregates.{aggregates_of}
use Rattle.relation_laws.specs.Equality.{same_row}
use Rattle.relation_laws.specs.Groups.{distinct, group_of, grouped_row, groups_of}
use Rattle.relation_laws.specs.Verdicts.{Verdict}
use Rattle.relation_laws.proofs.EqualityLemmas.{same_row_decides}
use Rattle.relation_laws.proofs.PartialOrderLemmas.{aggregates_of-same}
use Rattle.bag_laws.specs.Weights.{SameWeights}
use Rattle.bag_laws.specs.Gather.{gather}
use Rattle.bag_laws.specs.Buckets.{SitByBucket, of_bucket}
use Rattle.bag_laws.specs.Grouping.{grouped}
use Rattle.bag_laws.proofs.BagLemmas.{bag_from_same, same-from_equal, same-map, same-filter, same-trans}
use Rattle.bag_laws.proofs.GatherLemmas.{gather-agree, gather-map}
use Rattle.bag_laws.proofs.BucketLemmas.{map-sits_agree, of_bucket-gather, same-buckets, sits-filter_by}
use Rattle.bag_laws.proofs.DistinctLemmas.{distinct-filter, same-distinct}
use Rattle.bag_laws.proofs.FilterLemmas.{filter-map, filter-skip}

module _ {X K Y : Type 0} (same : K → K → Bool) (decides : (x y : K) → Decides (same x y) (x ≡ y)) (key : X → K) (result : K → List X → Y) where
  -- what is made of a key's items
  abbrev made : List X → K → Y
  made items k = result k (filter (λ x. same k (key x)) items)

  pub same-grouped : ((k : K) (G H : List X) → SameWeights G H → result k G ≡ result k H)
      → {A B : List X} → SameWeights A B → SameWeights (grouped same key result A) (grouped same key result B)
  same-grouped respects {A} {B} s =
      same-trans (same-map (made A) (same-distinct same decides (same-map key s)))
      (same-from_equal (λ i. map (λ k. respects k (filter (λ x. same k (key x)) A) (filter (λ x. same k (key x)) B) (same-filter (λ x. same k (key x)) s) i) (distinct same (map key B))))

  -- the groups of some keys are those of all whose keys are among them
  pub grouped-filter : (q : K → Bool) (A : List X) → grouped same key result (filter (λ x. q (key x)) A) ≡ map (made A) (filter q (distinct same (map key A)))
  grouped-filter q A =
      let keys : distinct same (map key (filter (λ x. q (key x)) A)) ≡ filter q (distinct same (map key A))
      = ap (distinct same) (sym (filter-map q key A)) ∙ distinct-filter same decides q (map key A) in
      ap (map (made (filter (λ x. q (key x)) A))) keys
      ∙ map-sits_agree q (made (filter (λ x. q (key x)) A)) (made A)
      (λ k qk. ap (result k) (filter-skip (λ x. same k (key x)) (λ x. q (key x)) (λ x e. sym (ap q ((decides k (key x)).0 e)) ∙ qk) A))
      (filter q (distinct same (map key A))) (sits-filter_by q q (λ k e. e) (distinct same (map key A)))

  module _ (bucket : X → ℕ) (of_key : K → ℕ) (agree : (x : X) → bucket x ≡ of_key (key x)) (n : ℕ) (below : (k : K) → of_key k < n) where
    -- grouping a bucket gives the bucket of the groups
    pub grouped-of_bucket : (j : ℕ) (A : List X) → grouped same key result (of_bucket bucket j A) ≡ map (made A) (of_bucket of_key j (distinct same (map key A)))
    grouped-of_bucket j A =
        ap (grouped same key result) (filter_agree (λ x. bucket x == j) (λ x. of_key (key x) == j) (λ x. ap (λ b. b == j) (agree x)) A)
        ∙ grouped-filter (λ k. of_key k == j) A

    pub same-grouped_buckets : (A : List X) → SameWeights (gather n (λ j. grouped same key result (of_bucket bucket j A))) (grouped same key result A)
    same-grouped_buckets A =
        let D = distinct same (map key A) in
        same-trans
        (same-from_equal (gather-agree n (λ j. grouped same key result (of_bucket bucket j A)) (λ j. map (made A) (of_bucket of_key j D)) (λ j lt. grouped-of_bucket j A)
        ∙ sym (gather-map n (made A) (λ j. of_bucket of_key j D))))
        (same-map (made A) (same-buckets of_key n below D))

    -- tasks that have whole groups
    pub same-grouped_by_bucket : (lists : ℕ → List X) → SitByBucket bucket n lists
        → SameWeights (gather n (λ j. grouped same key result (lists j))) (grouped same key result (gather n lists))
    same-grouped_by_bucket lists sits =
        same-trans
        (same-from_equal (gather-agree n (λ j. grouped same key result (lists j)) (λ j. grouped same key result (of_bucket bucket j (gather n lists)))
        (λ j lt. ap (grouped same key result) (sym (of_bucket-gather bucket n lists sits j lt)))))
        (same-grouped_buckets (gather n lists))

module _ (types : List SqlType) (calls : List Call) where
  -- what groups_of makes of a key and its rows
  pub aggregated : List Value → List (List Value) → Verdict
  aggregated key rows = grouped_row key (aggregates_of types calls rows)

  aggregated-same : (key : List Value) (G H : List (List Value)) → SameWeights G H → aggregated key G ≡ aggregated key H
  unfolding aggregated
  aggregated-same key G H s = ap (grouped_row key) (aggregates_of-same calls types G H (bag_from_same G H s))

  pub same-groups_of : (columns : List ℕ) {A B : List (List Value)} → SameWeights A B → SameWeights (groups_of types columns calls A) (groups_of types columns calls B)
  unfolding aggregated
  same-groups_of [] {A} {B} s =
      same-from_equal (ap (λ v. v ∷ []) (aggregated-same [] (group_of [] A []) (group_of [] B []) (same-filter (λ row. same_row [] (cut [] row)) s)))
  same-groups_of (column ∷ columns) s = same-grouped same_row same_row_decides (cut (column ∷ columns)) aggregated aggregated-same s

  -- with key columns: tasks that have whole groups give the groups of all rows
  pub same-groups_of_by_bucket : (column : ℕ) (columns : List ℕ) (bucket of_key : List Value → ℕ) → ((row : List Value) → bucket row ≡ of_key (cut (column ∷ columns) row))
      → (n : ℕ) → ((key : List Value) → of_key key < n) → (lists : ℕ → List (List Value)) → SitByBucket bucket n lists
      → SameWeights (gather n (λ j. groups_of types (column ∷ columns) calls (lists j))) (groups_of types (column ∷ columns) calls (gather n lists))
  unfolding aggregated
  same-groups_of_by_bucket column columns bucket of_key agree n below lists sits =
      same-grouped_by_bucket same_row same_row_decides (cut (column ∷ columns)) aggregated bucket of_key agree n below lists sits
