-- Hashes and buckets of a page's rows, and the pages of the parts.
use Rattle.std.proofs.Common.{◌≡◌, ℕ, ◌+◌, ◌%◌, ◌<◌, ◌≤◌, zero, suc, List, [], ◌∷◌, ◌++◌, Bool, true, false, length, get_or, take, map, refl, ap, sym, ◌∙◌, arith}
use Rattle.std.specs.Prelude.{All, filter, flat_map, replicate, ◌==◌, if◌then◌else◌}
use Rattle.std.specs.List.{range_with_len}
use Rattle.std.proofs.lemmas.List.{append-nil, get_or-map, length-map, map-append, take_more}
use Rattle.std.proofs.lemmas.List.Concat.{flat_map-append}
use Rattle.std.proofs.lemmas.List.Elements.{All-filter, All-head, All-map, All-tail}
use Rattle.std.proofs.lemmas.List.Folds.{flat_map-map}
use Rattle.std.proofs.lemmas.List.FromFn.{get_or-range_with_len, length-range_with_len}
use Rattle.std.proofs.lemmas.List.Sums.{count_by-le-length, length-filter}
use Rattle.std.proofs.lemmas.Grind.{same_number_lists}
use Rattle.std.proofs.lemmas.Simd.{pick_l_whole}
use Rattle.sql_values.specs.declared.value.Value.{Value}
use Rattle.sql_values.specs.Buckets.{bytes_of, hash_after}
use Rattle.sql_values.specs.Cells.{cell, cut}
use Rattle.sql_values.proofs.HashLemmas.{hash_after-append}
use Rattle.col_pages.specs.Pages.{TypedPage, most_rows}
use Rattle.bag_laws.specs.Buckets.{key_bucket, of_bucket}
use Rattle.bag_laws.specs.Gather.{gather}
use Rattle.bag_laws.specs.Weights.{SameWeights}
use Rattle.bag_laws.proofs.BagLemmas.{same-from_equal, same-trans}
use Rattle.bag_laws.proofs.BucketLemmas.{key_bucket-below, same-buckets}
use Rattle.output_buffer.specs.Partitions.{Partition, all_rows, hash_of, part_of, parts_of, places_of, rows_at}
use Rattle.bag_laws.proofs.FilterLemmas.{filter-map}
use Rattle.sum_laws.proofs.SumLemmas.{range_push}
use Rattle.output_buffer.proofs.PlaceLemmas.{all_told}

-- no column is hashed yet
pub none_hashed : (rows : List (List Value)) → replicate (length rows) 14695981039346656037 ≡ map (hash_of []) rows
none_hashed [] = refl
none_hashed (row ∷ rows) = ap (λ hashes. 14695981039346656037 ∷ hashes) (none_hashed rows)

hash_next : (columns : List ℕ) (i : ℕ) (row : List Value) → i < length columns
    → hash_of (take (i + 1) columns) row ≡ hash_after (hash_of (take i columns) row) (bytes_of (cell row (get_or columns i 0)))
hash_next columns i row lt =
    let last = get_or columns i 0 in
    ap (λ cs. hash_of cs row) (take_more columns i 0 lt)
    ∙ ap (λ vs. hash_after 14695981039346656037 (flat_map bytes_of vs)) (map-append (cell row) (take i columns) (last ∷ []))
    ∙ ap (hash_after 14695981039346656037) (flat_map-append bytes_of (cut (take i columns) row) (cell row last ∷ []) ∙ ap (λ bytes. flat_map bytes_of (cut (take i columns) row) ++ bytes) (append-nil (bytes_of (cell row last))))
    ∙ hash_after-append 14695981039346656037 (flat_map bytes_of (cut (take i columns) row)) (bytes_of (cell row last))

-- one more column is hashed
pub hashed_more : (columns : List ℕ) (rows : List (List Value)) (i column : ℕ) (old new : List ℕ) → i < length columns → column ≡ get_or columns i 0
    → old ≡ map (hash_of (take i columns)) rows → length new ≡ length old
    → ((k : ℕ) → k < length rows → get_or new k 0 ≡ hash_after (get_or old k 0) (bytes_of (cell (get_or rows k []) column)))
    → new ≡ map (hash_of (take (i + 1) columns)) rows
hashed_more columns rows i column old new lt is before same each =
    let long : length new ≡ length rows = same ∙ ap length before ∙ length-map rows (hash_of (take i columns)) in
    same_number_lists new (map (hash_of (take (i + 1) columns)) rows) (long ∙ sym (length-map rows (hash_of (take (i + 1) columns))))
    (λ k less. let below : k < length rows = omega (arith, less, long) in
    each k below
    ∙ ap (λ c. hash_after (get_or old k 0) (bytes_of (cell (get_or rows k []) c))) is
    ∙ ap (λ hashes. hash_after (get_or hashes k 0) (bytes_of (cell (get_or rows k []) (get_or columns i 0)))) before
    ∙ ap (λ hash. hash_after hash (bytes_of (cell (get_or rows k []) (get_or columns i 0)))) (get_or-map (hash_of (take i columns)) rows k [] 0 below)
    ∙ sym (hash_next columns i (get_or rows k []) lt)
    ∙ sym (get_or-map (hash_of (take (i + 1) columns)) rows k [] 0 below))

module _ {X Y Z : Type 0} where
  pub map-twice : (f : Y → Z) (g : X → Y) (xs : List X) → map f (map g xs) ≡ map (λ x. f (g x)) xs
  map-twice f g [] = refl
  map-twice f g (x ∷ xs) = ap (λ ys. f (g x) ∷ ys) (map-twice f g xs)

-- the hash gives the bucket
pub bucketed : (n : ℕ) (columns : List ℕ) (rows : List (List Value)) → map (λ hash. hash % n) (map (hash_of columns) rows) ≡ map (key_bucket n columns) rows
bucketed n columns rows = map-twice (λ hash. hash % n) (hash_of columns) rows

pub buckets_below : (n : ℕ) (columns : List ℕ) (rows : List (List Value)) → 0 < n → All (λ bucket. bucket < n) (map (key_bucket n columns) rows)
buckets_below n columns rows some =
    All-map (λ bucket. bucket < n) (key_bucket n columns) rows (λ k d lt. key_bucket-below n columns (get_or rows k d) some)

pub places_within : (buckets : List ℕ) (k n : ℕ) → length buckets ≡ n → All (λ place. place < n) (places_of buckets k)
places_within buckets k n long =
    All-filter (λ place. get_or buckets place 0 == k) (λ place. place < n) (range_with_len 0 (length buckets))
    (λ j d lt. let below : j < length buckets = omega (arith, lt, length-range_with_len 0 (length buckets)) in
    omega (arith, below, long, get_or-range_with_len 0 (length buckets) j d below))

pub places_few : (buckets : List ℕ) (k : ℕ) → length buckets ≤ most_rows → length (places_of buckets k) ≤ most_rows
places_few buckets k few =
    omega (
      arith,
      few,
      length-filter (λ place. get_or buckets place 0 == k) (range_with_len 0 (length buckets)),
      count_by-le-length (λ place. get_or buckets place 0 == k) (range_with_len 0 (length buckets)),
      length-range_with_len 0 (length buckets),
    )

module _ {X : Type 0} where
  -- tests that agree on what is there
  filter-agree : (p q : X → Bool) (xs : List X) → All (λ x. p x ≡ q x) xs → filter p xs ≡ filter q xs
  filter-agree p q [] agree = refl
  filter-agree p q (x ∷ xs) agree =
      λ i. if All-head (λ y. p y ≡ q y) x xs agree i then x ∷ filter-agree p q xs (All-tail (λ y. p y ≡ q y) x xs agree) i else filter-agree p q xs (All-tail (λ y. p y ≡ q y) x xs agree) i

-- the rows at the places of a bucket are the rows of the bucket
pub rows_at-places : (bucket : List Value → ℕ) (rows : List (List Value)) (k : ℕ) → rows_at rows (places_of (map bucket rows) k) ≡ of_bucket bucket k rows
rows_at-places bucket rows k =
    let n = length (map bucket rows) in
    let long : length (map bucket rows) ≡ length rows = length-map rows bucket in
    ap (rows_at rows) (filter-agree (λ place. get_or (map bucket rows) place 0 == k) (λ place. bucket (get_or rows place []) == k) (range_with_len 0 n)
    (λ j d lt. let below : j < n = omega (arith, lt, length-range_with_len 0 n) in
    let here : get_or (range_with_len 0 n) j d ≡ 0 + j = get_or-range_with_len 0 n j d below in
    ap (λ b. b == k) (get_or-map bucket rows (get_or (range_with_len 0 n) j d) [] 0 (omega (arith, here, below, long)))))
    ∙ sym (filter-map (λ row. bucket row == k) (λ place. get_or rows place []) (range_with_len 0 n))
    ∙ ap (filter (λ row. bucket row == k)) (pick_l_whole [] rows n (sym long))

-- the pages that are selected by places are those of the parts
pub selected : {X : Type 0} (items : X → List ℕ) (by : Partition) (page : TypedPage) (lists : List X)
    → map items lists ≡ map (places_of (map (key_bucket by.parts by.columns) page.rows)) (range_with_len 0 by.parts)
    → map (λ p. record page { rows = rows_at page.rows (items p) }) lists ≡ parts_of by page
selected items by page lists told =
    sym (map-twice (λ places. record page { rows = rows_at page.rows places }) items lists)
    ∙ ap (map (λ places. record page { rows = rows_at page.rows places })) told
    ∙ map-twice (λ places. record page { rows = rows_at page.rows places }) (places_of (map (key_bucket by.parts by.columns) page.rows)) (range_with_len 0 by.parts)
    ∙ (λ i. map (λ k. record page { rows = rows_at-places (key_bucket by.parts by.columns) page.rows k i }) (range_with_len 0 by.parts))

gathered : (rows : ℕ → List (List Value)) (n : ℕ) → flat_map rows (range_with_len 0 n) ≡ gather n rows
gathered rows zero = refl
gathered rows (suc n) =
    let here : 0 + n ≡ n = omega arith in
    ap (flat_map rows) (range_push 0 n ∙ ap (λ (j : ℕ). range_with_len 0 n ++ j ∷ []) here)
    ∙ flat_map-append rows (range_with_len 0 n) (n ∷ [])
    ∙ ap (λ items. items ++ (rows n ++ [])) (gathered rows n)
    ∙ ap (λ items. gather n rows ++ items) (append-nil (rows n))

-- all parts together have the rows of the page
pub together : (by : Partition) (page : TypedPage) → 0 < by.parts → SameWeights (all_rows (parts_of by page)) page.rows
together by page some =
    same-trans (same-from_equal (flat_map-map (λ p. p.rows) (part_of by page) (range_with_len 0 by.parts) ∙ gathered (λ k. of_bucket (key_bucket by.parts by.columns) k page.rows) by.parts))
    (same-buckets (key_bucket by.parts by.columns) by.parts (λ row. key_bucket-below by.parts by.columns row some) page.rows)

-- what the buckets of a page's rows and their places say of one another
pub record ArePlaced {X : Type 0} (items : X → List ℕ) (by : Partition) (page : TypedPage) (lists : List X) : Type 0 where
  pub within : All (λ p. All (λ place. place < length page.rows) (items p)) lists
  pub few : All (λ p. length (items p) ≤ most_rows) lists
  pub pages : map (λ p. record page { rows = rows_at page.rows (items p) }) lists ≡ parts_of by page

pub placed : {X : Type 0} (items : X → List ℕ) (by : Partition) (page : TypedPage) (buckets : List ℕ) (parts : ℕ) (lists : List X)
    → parts ≡ by.parts → length page.rows ≤ most_rows → buckets ≡ map (key_bucket by.parts by.columns) page.rows
    → map items lists ≡ map (places_of buckets) (range_with_len 0 parts) → ArePlaced items by page lists
placed items by page buckets parts lists same few is told =
    let long : length buckets ≡ length page.rows = ap length is ∙ length-map page.rows (key_bucket by.parts by.columns) in
    record {
      within = all_told items (λ places. All (λ place. place < length page.rows) places) (places_of buckets) lists parts told (λ k. places_within buckets k (length page.rows) long);
      few = all_told items (λ places. length places ≤ most_rows) (places_of buckets) lists parts told (λ k. places_few buckets k (omega (arith, few, long)));
      pages = selected items by page lists (told ∙ (λ i. map (places_of (is i)) (range_with_len 0 (same i))));
    }

pub below_parts : (by : Partition) (page : TypedPage) (buckets : List ℕ) (parts : ℕ) → parts ≡ by.parts → 1 ≤ parts
    → buckets ≡ map (key_bucket by.parts by.columns) page.rows → All (λ bucket. bucket < parts) buckets
below_parts by page buckets parts same some is = λ k d lt.
    let less : k < length (map (key_bucket by.parts by.columns) page.rows) = omega (arith, lt, ap length is) in
    omega (arith, same, ap (λ all. get_or all k d) is, buckets_below by.parts by.columns page.rows (omega (arith, same, some)) k d less)
