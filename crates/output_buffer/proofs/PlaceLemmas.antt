-- Places by bucket: what one more row changes, and the rows at the places of a bucket.
use Rattle.std.proofs.Common.{◌≡◌, ◌<◌, ◌≤◌, ◌+◌, ℕ, zero, suc, List, [], ◌∷◌, ◌++◌, Bool, true, false, length, get_or, set, take, map, refl, ap, sym, ◌∙◌, arith, add-one, ◌⊎◌, inl, inr, subst}
use Rattle.std.specs.Prelude.{All, filter, count_by, replicate, ◌==◌, if◌then◌else◌}
use Rattle.std.specs.List.{range_with_len}
use Rattle.std.proofs.Math.ListN.{get_or-map as get_or_default-map}
use Rattle.std.proofs.lemmas.Bool.{cases_eq, eq-eqb, ne_eqb}
use Rattle.std.proofs.lemmas.List.{append-nil, get_or-set_same, get_or-set_other, length-map, length-set, length-take, same_lists}
use Rattle.std.proofs.lemmas.List.Elements.{All-head, All-tail, filter-append}
use Rattle.std.proofs.lemmas.List.FromFn.{get_or-map-range_with_len, length-map-range_with_len}
use Rattle.std.proofs.lemmas.List.Sums.{count_by-le-length, count_by_more_no, count_by_more_yes}
use Rattle.sum_laws.proofs.SumLemmas.{range_push}

-- how many of the buckets are this one
abbrev pub count_of : List ℕ → ℕ → ℕ
count_of buckets k = count_by (λ bucket. bucket == k) buckets

-- the places of a bucket, of those before a place
abbrev pub places_before : List ℕ → ℕ → ℕ → List ℕ
places_before buckets to k = filter (λ place. get_or buckets place 0 == k) (range_with_len 0 to)

module _ {X : Type 0} where
  set_at : (f g : ℕ → X) (n b : ℕ) (x : X) → b < n → x ≡ g b → ((k : ℕ) → ¬ (k ≡ b) → f k ≡ g k) → (k : ℕ) (d : X) → k < n → (k ≡ b) ⊎ (¬ (k ≡ b))
      → get_or (set (map f (range_with_len 0 n)) b x) k d ≡ g k
  set_at f g n b x below is others k d lt (inl e) =
      ap (λ j. get_or (set (map f (range_with_len 0 n)) b x) j d) e
      ∙ get_or-set_same (map f (range_with_len 0 n)) b x d (omega (arith, below, length-map-range_with_len f 0 n)) ∙ is ∙ ap g (sym e)
  set_at f g n b x below is others k d lt (inr ne) =
      get_or-set_other (map f (range_with_len 0 n)) b k x d ne ∙ get_or-map-range_with_len f 0 n k k d lt (omega arith) ∙ others k ne

  -- one item changes of a list that is given by its places
  pub set-map_range : (f g : ℕ → X) (n b : ℕ) (x : X) → b < n → x ≡ g b → ((k : ℕ) → ¬ (k ≡ b) → f k ≡ g k)
      → set (map f (range_with_len 0 n)) b x ≡ map g (range_with_len 0 n)
  set-map_range f g n b x below is others =
      let long : length (set (map f (range_with_len 0 n)) b x) ≡ n = length-set (map f (range_with_len 0 n)) b x ∙ length-map-range_with_len f 0 n in
      same_lists (set (map f (range_with_len 0 n)) b x) (map g (range_with_len 0 n)) (long ∙ sym (length-map-range_with_len g 0 n))
      (λ k d lt. let less : k < n = omega (arith, lt, long) in
      set_at f g n b x below is others k d less (cases_eq k b) ∙ sym (get_or-map-range_with_len g 0 n k k d less (omega arith)))

-- no row is counted yet
pub none_counted : (a n : ℕ) → replicate n 0 ≡ map (count_of []) (range_with_len a n)
none_counted a zero = refl
none_counted a (suc n) = ap (λ counts. 0 ∷ counts) (none_counted (a + 1) n)

-- one more row is counted
pub counted_more : (buckets : List ℕ) (n i b count : ℕ) → i < length buckets → b ≡ get_or buckets i 0 → b < n → count ≡ count_of (take i buckets) b + 1
    → set (map (count_of (take i buckets)) (range_with_len 0 n)) b count ≡ map (count_of (take (i + 1) buckets)) (range_with_len 0 n)
counted_more buckets n i b count lt is below more =
    set-map_range (count_of (take i buckets)) (count_of (take (i + 1) buckets)) n b count below
    (more ∙ sym (count_by_more_yes (λ bucket. bucket == b) buckets i 0 lt (eq-eqb (get_or buckets i 0) b (sym is))))
    (λ k ne. sym (count_by_more_no (λ bucket. bucket == k) buckets i 0 lt (ne_eqb (get_or buckets i 0) k (λ e. ne (sym e ∙ sym is)))))

placed_here : (buckets : List ℕ) (i k : ℕ) (b : Bool) → (get_or buckets i 0 == k) ≡ b → places_before buckets (i + 1) k ≡ places_before buckets i k ++ (if b then i ∷ [] else [])
placed_here buckets i k b e =
    let next : i + 1 ≡ suc i = add-one i in
    let here : 0 + i ≡ i = omega arith in
    ap (λ n. places_before buckets n k) next
    ∙ ap (filter (λ place. get_or buckets place 0 == k)) (range_push 0 i ∙ ap (λ (j : ℕ). range_with_len 0 i ++ j ∷ []) here)
    ∙ filter-append (λ place. get_or buckets place 0 == k) (range_with_len 0 i) (i ∷ [])
    ∙ ap (λ c. places_before buckets i k ++ (if c then i ∷ [] else [])) e

-- one more place is put
pub placed_more : (buckets : List ℕ) (n i b : ℕ) (places : List ℕ) → b ≡ get_or buckets i 0 → b < n → places ≡ places_before buckets i b ++ i ∷ []
    → set (map (places_before buckets i) (range_with_len 0 n)) b places ≡ map (places_before buckets (i + 1)) (range_with_len 0 n)
placed_more buckets n i b places is below more =
    set-map_range (places_before buckets i) (places_before buckets (i + 1)) n b places below
    (more ∙ sym (placed_here buckets i b true (eq-eqb (get_or buckets i 0) b (sym is))))
    (λ k ne. sym (placed_here buckets i k false (ne_eqb (get_or buckets i 0) k (λ e. ne (sym e ∙ sym is))) ∙ append-nil (places_before buckets i k)))

-- no place is put yet
module _ {X : Type 0} (items : X → List ℕ) (buckets : List ℕ) where
  empty_from : (a : ℕ) (lists : List X) → All (λ p. items p ≡ []) lists → map items lists ≡ map (places_before buckets 0) (range_with_len a (length lists))
  empty_from a [] empty = refl
  empty_from a (x ∷ lists) empty =
      λ i. All-head (λ p. items p ≡ []) x lists empty i ∷ empty_from (a + 1) lists (All-tail (λ p. items p ≡ []) x lists empty) i

  pub none_placed : (lists : List X) → All (λ p. items p ≡ []) lists → map items lists ≡ map (places_before buckets 0) (range_with_len 0 (length lists))
  none_placed lists empty = empty_from 0 lists empty

-- a list of lists that is given by its places is as long as these
pub length_told : {X : Type 0} (items : X → List ℕ) (f : ℕ → List ℕ) (lists : List X) (n : ℕ) → map items lists ≡ map f (range_with_len 0 n) → length lists ≡ n
length_told items f lists n e = sym (length-map lists items) ∙ ap length e ∙ length-map-range_with_len f 0 n

-- the list at a place
pub item_told : {X : Type 0} (items : X → List ℕ) (f : ℕ → List ℕ) (lists : List X) (n k : ℕ) (d : X) → map items lists ≡ map f (range_with_len 0 n) → k < n → items (get_or lists k d) ≡ f k
item_told items f lists n k d e lt =
    sym (get_or_default-map items lists k d) ∙ ap (λ all. get_or all k (items d)) e ∙ get_or-map-range_with_len f 0 n k k (items d) lt (omega arith)

pub all_told : {X : Type 0} (items : X → List ℕ) (P : List ℕ → Type 0) (f : ℕ → List ℕ) (lists : List X) (n : ℕ) → map items lists ≡ map f (range_with_len 0 n) → ((k : ℕ) → P (f k)) → All (λ p. P (items p)) lists
all_told items P f lists n e each = λ k d lt. subst P (sym (item_told items f lists n k d e (omega (arith, lt, length_told items f lists n e)))) (each k)

-- a count that is read is that of the rows so far
pub counted : (buckets counts : List ℕ) (n i b count : ℕ) → counts ≡ map (count_of (take i buckets)) (range_with_len 0 n) → b < n → count ≡ get_or counts b count → count ≡ count_of (take i buckets) b
counted buckets counts n i b count told below is =
    is ∙ ap (λ all. get_or all b count) told ∙ get_or-map-range_with_len (count_of (take i buckets)) 0 n b b count below (omega arith)

pub counted_few : (buckets : List ℕ) (i b : ℕ) → count_of (take i buckets) b ≤ i
counted_few buckets i b = omega (arith, count_by-le-length (λ bucket. bucket == b) (take i buckets), length-take i buckets)
