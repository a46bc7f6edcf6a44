-- Grouping pieces and merging their partial rows is grouping the whole.
use Rattle.std.proofs.Common.{◌≡◌, ℕ, ◌*◌, ◌/◌, ◌%◌, ◌<◌, zero, suc, List, [], ◌∷◌, ◌++◌, Bool, true, refl, ap, sym, ◌∙◌, arith, map, length, take, drop, ◌⊎◌, inl, inr, append_assoc}
use Rattle.std.specs.Prelude.{filter, ◌==◌}
use Rattle.std.proofs.lemmas.Bool.{eqb-true, eq-eqb}
use Rattle.std.proofs.lemmas.List.{append-nil, drop_at, take_at, length-map, nil_from_length}
use Rattle.sql_values.specs.declared.types.SqlType.{SqlType}
use Rattle.sql_values.specs.declared.value.Value.{Value}
use Rattle.sql_values.specs.declared.relational.Call.{Call}
use Rattle.sql_values.specs.Cells.{cell, cut}
use Rattle.relation_laws.specs.Aggregates.{aggregates_of}
use Rattle.relation_laws.specs.Equality.{same_row}
use Rattle.relation_laws.specs.Groups.{distinct, group_of, grouped_row, groups_of, keys_of}
use Rattle.relation_laws.specs.Partials.{merged, partial_of, results_from}
use Rattle.relation_laws.specs.Verdicts.{Verdict}
use Rattle.relation_laws.proofs.EqualityLemmas.{same_row_decides}
use Rattle.relation_laws.proofs.PartialLemmas.{partial_of-append, results_from-partial_of}
use Rattle.bag_laws.specs.Weights.{SameWeights}
use Rattle.bag_laws.specs.Gather.{gather}
use Rattle.bag_laws.specs.Buckets.{Sits, SitByBucket}
use Rattle.bag_laws.specs.Pieces.{all_merged, behind_key, finals_of, front_keys, partials_of}
use Rattle.bag_laws.proofs.BagLemmas.{bag_from_same, same-filter, same-from_equal, same-map, same-sym, same-trans}
use Rattle.bag_laws.proofs.GatherLemmas.{gather-agree, gather-filter, gather-flatten, gather-map}
use Rattle.bag_laws.proofs.BucketLemmas.{filter-sits_agree, map-sits_agree, map-sits_back, sits-cons, sits-nil}
use Rattle.bag_laws.proofs.DistinctLemmas.{distinct-gather, distinct-once, sits-distinct}
use Rattle.bag_laws.proofs.FilterLemmas.{filter-map}
use Rattle.bag_laws.proofs.GroupLemmas.{same-grouped, same-grouped_by_bucket, same-groups_of}
use Rattle.bag_laws.proofs.MergeLemmas.{all_merged-same}

module _ (calls : List Call) where
  -- the partial rows speak of these rows, whatever others stand behind them
  record Tells (partials rows : List (List Value)) : Type 0 where
    tells : (more others : List (List Value)) → all_merged calls more ≡ partial_of calls others → all_merged calls (partials ++ more) ≡ partial_of calls (rows ++ others)

  tells-none : {partials rows : List (List Value)} → partials ≡ [] → rows ≡ [] → Tells partials rows
  tells-none e f = record { tells = λ more others h. ap (λ ps. all_merged calls (ps ++ more)) e ∙ h ∙ sym (ap (λ rs. partial_of calls (rs ++ others)) f) }

  tells-one : {partials rows : List (List Value)} → partials ≡ partial_of calls rows ∷ [] → Tells partials rows
  tells-one {partials} {rows} e = record {
    tells = λ more others h. ap (λ ps. all_merged calls (ps ++ more)) e ∙ ap (merged calls (partial_of calls rows)) h ∙ sym (partial_of-append calls rows others);
  }

  tells-gather : (n : ℕ) (partials rows : ℕ → List (List Value)) → ((k : ℕ) → k < n → Tells (partials k) (rows k)) → Tells (gather n partials) (gather n rows)
  tells-gather zero partials rows each = record { tells = λ more others h. h }
  tells-gather (suc n) partials rows each = record {
    tells = λ more others h.
        ap (all_merged calls) (append_assoc (gather n partials) (partials n) more)
        ∙ (tells-gather n partials rows (λ k lt. each k (omega arith))).tells (partials n ++ more) (rows n ++ others) ((each n (omega arith)).tells more others h)
        ∙ ap (partial_of calls) (sym (append_assoc (gather n rows) (rows n) others));
  }

  all_told : (partials rows : List (List Value)) → Tells partials rows → all_merged calls partials ≡ partial_of calls rows
  all_told partials rows t =
      ap (all_merged calls) (sym (append-nil partials)) ∙ t.tells [] [] refl ∙ ap (partial_of calls) (append-nil rows)

-- a row of so many columns
abbrev pub wide : ℕ → List Value → Bool
wide width key = length key == width

cuts_sit : (columns : List ℕ) (rows : List (List Value)) → Sits (wide (length columns)) (map (cut columns) rows)
cuts_sit columns [] = sits-nil (wide (length columns))
cuts_sit columns (row ∷ rows) =
    sits-cons (wide (length columns)) (cut columns row) (map (cut columns) rows)
    (eq-eqb (length (cut columns row)) (length columns) (length-map columns (cell row))) (cuts_sit columns rows)

pub keys_sit : (columns : List ℕ) (rows : List (List Value)) → Sits (wide (length columns)) (keys_of columns rows)
keys_sit [] rows = sits-cons (wide 0) [] [] refl (sits-nil (wide 0))
keys_sit (column ∷ columns) rows =
    sits-distinct same_row same_row_decides (wide (length (column ∷ columns))) (map (cut (column ∷ columns)) rows) (cuts_sit (column ∷ columns) rows)

none_cut : (columns : List ℕ) (key : List Value) (rows : List (List Value)) → filter (same_row key) (map (cut columns) rows) ≡ [] → group_of columns rows key ≡ []
none_cut columns key rows e =
    let cuts : map (cut columns) (group_of columns rows key) ≡ [] = sym (filter-map (same_row key) (cut columns) rows) ∙ e in
    nil_from_length (group_of columns rows key) (sym (length-map (group_of columns rows key) (cut columns)) ∙ ap length cuts)

module _ (columns : List ℕ) (calls : List Call) (rows : List (List Value)) where
  -- a group's row
  abbrev packed : List Value → List Value
  packed key = key ++ partial_of calls (group_of columns rows key)

  key_in_front : (key : List Value) → wide (length columns) key ≡ true → take (length columns) (packed key) ≡ key
  key_in_front key e = take_at key (partial_of calls (group_of columns rows key)) (length columns) (eqb-true (length key) (length columns) e)

  partial_behind : (key : List Value) → wide (length columns) key ≡ true → drop (length columns) (packed key) ≡ partial_of calls (group_of columns rows key)
  partial_behind key e = drop_at key (partial_of calls (group_of columns rows key)) (length columns) (eqb-true (length key) (length columns) e)

  pub front_keys-partials : map (take (length columns)) (partials_of columns calls rows) ≡ keys_of columns rows
  front_keys-partials = map-sits_back (wide (length columns)) packed (take (length columns)) key_in_front (keys_of columns rows) (keys_sit columns rows)

  found_packed : (key : List Value) → behind_key (length columns) (partials_of columns calls rows) key ≡ map (drop (length columns)) (map packed (filter (same_row key) (keys_of columns rows)))
  found_packed key =
      ap (map (drop (length columns)))
      (filter-map (λ row. same_row key (take (length columns) row)) packed (keys_of columns rows)
      ∙ ap (map packed) (filter-sits_agree (wide (length columns)) (λ k. same_row key (take (length columns) (packed k))) (same_row key)
      (λ k e. ap (same_row key) (key_in_front k e)) (keys_of columns rows) (keys_sit columns rows)))

  told_at : (key : List Value) → wide (length columns) key ≡ true
      → (group_of columns rows key ≡ []) × (filter (same_row key) (keys_of columns rows) ≡ []) ⊎ (filter (same_row key) (keys_of columns rows) ≡ key ∷ [])
      → Tells calls (behind_key (length columns) (partials_of columns calls rows) key) (group_of columns rows key)
  told_at key e (inl none) = tells-none calls (found_packed key ∙ ap (λ keys. map (drop (length columns)) (map packed keys)) none.1) none.0
  told_at key e (inr one) =
      tells-one calls (found_packed key ∙ ap (λ keys. map (drop (length columns)) (map packed keys)) one ∙ ap (λ p. p ∷ []) (partial_behind key e))

-- a key does not occur, or it is found once
occurs : (columns : List ℕ) (rows : List (List Value)) (key : List Value) → wide (length columns) key ≡ true
    → (group_of columns rows key ≡ []) × (filter (same_row key) (keys_of columns rows) ≡ []) ⊎ (filter (same_row key) (keys_of columns rows) ≡ key ∷ [])
occurs [] rows [] e = inr refl
occurs [] rows (v ∷ key) e = absurd (omega (arith, eqb-true (length (v ∷ key)) 0 e))
occurs (column ∷ columns) rows key e =
    elim (distinct-once same_row same_row_decides key (map (cut (column ∷ columns)) rows))
    as (λ _. (group_of (column ∷ columns) rows key ≡ []) × (filter (same_row key) (keys_of (column ∷ columns) rows) ≡ []) ⊎ (filter (same_row key) (keys_of (column ∷ columns) rows) ≡ key ∷ []))
    [ inl none ↦ inl (none_cut (column ∷ columns) key rows none.0, none.1) | inr one ↦ inr one ]

told : (columns : List ℕ) (calls : List Call) (rows : List (List Value)) (key : List Value) → wide (length columns) key ≡ true
    → Tells calls (behind_key (length columns) (partials_of columns calls rows) key) (group_of columns rows key)
told columns calls rows key e = told_at columns calls rows key e (occurs columns rows key e)

module _ (types : List SqlType) (calls : List Call) (n : ℕ) (pieces : ℕ → List (List Value)) where
  -- the partial rows of all pieces
  abbrev of_pieces : List ℕ → List (List Value)
  of_pieces columns = gather n (λ k. partials_of columns calls (pieces k))

  merged_group : (columns : List ℕ) (key : List Value) → wide (length columns) key ≡ true
      → all_merged calls (behind_key (length columns) (of_pieces columns) key) ≡ partial_of calls (group_of columns (gather n pieces) key)
  merged_group columns key e =
      let w = length columns in
      let each : ℕ → List (List Value) = λ k. behind_key w (partials_of columns calls (pieces k)) key in
      let gathered : behind_key w (of_pieces columns) key ≡ gather n each
      = ap (map (drop w)) (gather-filter n (λ row. same_row key (take w row)) (λ k. partials_of columns calls (pieces k)))
      ∙ gather-map n (drop w) (λ k. filter (λ row. same_row key (take w row)) (partials_of columns calls (pieces k))) in
      ap (all_merged calls) gathered
      ∙ all_told calls (gather n each) (gather n (λ k. group_of columns (pieces k) key))
      (tells-gather calls n each (λ k. group_of columns (pieces k) key) (λ k lt. told columns calls (pieces k) key e))
      ∙ ap (partial_of calls) (sym (gather-filter n (λ row. same_row key (cut columns row)) pieces))

  all_keys : (columns : List ℕ) → front_keys (length columns) (of_pieces columns) ≡ keys_of columns (gather n pieces)
  all_keys [] = refl
  all_keys (column ∷ columns) =
      let C = column ∷ columns in
      ap (distinct same_row)
      (gather-map n (take (length C)) (λ k. partials_of C calls (pieces k))
      ∙ gather-agree n (λ k. map (take (length C)) (partials_of C calls (pieces k))) (λ k. keys_of C (pieces k)) (λ k lt. front_keys-partials C calls (pieces k)))
      ∙ distinct-gather same_row same_row_decides n (λ k. map (cut C) (pieces k))
      ∙ ap (distinct same_row) (sym (gather-map n (cut C) pieces))

  -- the groups that the partial rows of pieces give are those of all rows
  pub finals_of-pieces : (columns : List ℕ) → finals_of types (length columns) calls (of_pieces columns) ≡ groups_of types columns calls (gather n pieces)
  finals_of-pieces columns =
      let w = length columns in
      let final : List Value → Verdict = λ key. grouped_row key (results_from types calls (all_merged calls (behind_key w (of_pieces columns) key))) in
      let whole : List Value → Verdict = λ key. grouped_row key (aggregates_of types calls (group_of columns (gather n pieces) key)) in
      ap (map final) (all_keys columns)
      ∙ map-sits_agree (wide w) final whole
      (λ key e. ap (grouped_row key) (ap (results_from types calls) (merged_group columns key e) ∙ results_from-partial_of types calls (group_of columns (gather n pieces) key)))
      (keys_of columns (gather n pieces)) (keys_sit columns (gather n pieces))

module _ (types : List SqlType) (calls : List Call) where
  -- what finals_of makes of a key and its rows
  pub finished : ℕ → List Value → List (List Value) → Verdict
  finished width key rows = grouped_row key (results_from types calls (all_merged calls (map (drop width) rows)))

  finished-same : (width : ℕ) (key : List Value) (G H : List (List Value)) → SameWeights G H → finished width key G ≡ finished width key H
  unfolding finished
  finished-same width key G H s =
      ap (λ p. grouped_row key (results_from types calls p))
      (all_merged-same calls (map (drop width) G) (map (drop width) H) (bag_from_same (map (drop width) G) (map (drop width) H) (same-map (drop width) s)))

  -- partial rows may come in any order, whatever they hold
  pub same-finals_of : (width : ℕ) {Z W : List (List Value)} → SameWeights Z W → SameWeights (finals_of types width calls Z) (finals_of types width calls W)
  unfolding finished
  same-finals_of zero {Z} {W} s =
      same-from_equal (ap (λ v. v ∷ []) (finished-same 0 [] (filter (λ row. same_row [] (take 0 row)) Z) (filter (λ row. same_row [] (take 0 row)) W) (same-filter (λ row. same_row [] (take 0 row)) s)))
  same-finals_of (suc width) s = same-grouped same_row same_row_decides (take (suc width)) (finished (suc width)) (finished-same (suc width)) s

  -- tasks that have all partial rows of their keys
  pub same-finals_of_by_bucket : (width : ℕ) (bucket of_key : List Value → ℕ) → ((row : List Value) → bucket row ≡ of_key (take (suc width) row))
      → (n : ℕ) → ((key : List Value) → of_key key < n) → (lists : ℕ → List (List Value)) → SitByBucket bucket n lists
      → SameWeights (gather n (λ j. finals_of types (suc width) calls (lists j))) (finals_of types (suc width) calls (gather n lists))
  unfolding finished
  same-finals_of_by_bucket width bucket of_key agree n below lists sits =
      same-grouped_by_bucket same_row same_row_decides (take (suc width)) (finished (suc width)) bucket of_key agree n below lists sits

  -- partial rows of pieces in any order, rows in any order
  pub same-merged_pieces : (columns : List ℕ) (n : ℕ) (pieces : ℕ → List (List Value)) {rows partials : List (List Value)}
      → SameWeights (gather n pieces) rows → SameWeights (gather n (λ k. partials_of columns calls (pieces k))) partials
      → SameWeights (finals_of types (length columns) calls partials) (groups_of types columns calls rows)
  same-merged_pieces columns n pieces s t =
      same-trans (same-finals_of (length columns) (same-sym t)) (same-trans (same-from_equal (finals_of-pieces types calls n pieces columns)) (same-groups_of types calls columns s))

  -- pieces of all drivers of all tasks
  pub finals_of-driver_pieces : (columns : List ℕ) (n m : ℕ) (pieces : ℕ → ℕ → List (List Value))
      → finals_of types (length columns) calls (gather n (λ k. gather m (λ d. partials_of columns calls (pieces k d)))) ≡ groups_of types columns calls (gather n (λ k. gather m (pieces k)))
  finals_of-driver_pieces columns n m pieces =
      ap (finals_of types (length columns) calls) (gather-flatten n m (λ k d. partials_of columns calls (pieces k d)))
      ∙ finals_of-pieces types calls (n * m) (λ i. pieces (i / m) (i % m)) columns
      ∙ ap (groups_of types columns calls) (sym (gather-flatten n m pieces))
