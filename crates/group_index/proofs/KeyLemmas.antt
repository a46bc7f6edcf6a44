-- Where a key stands, by the places of its hash.
use Rattle.std.proofs.Common.{◌≡◌, ◌≢◌, ℕ, ◌+◌, ◌<◌, ◌≤◌, zero, suc, List, [], ◌∷◌, ◌++◌, Bool, ◌&&◌, length, get_or, drop, map, take, refl, ap, sym, subst, ◌∙◌, arith, true, false, ◌⊎◌, inl, inr}
use Rattle.std.specs.Prelude.{bytes_eq, slice_index_or, All, Option, Some, None, IfSome}
use Rattle.std.proofs.lemmas.Bool.{cases_lt, eq-eqb, eqb-true}
use Rattle.std.proofs.lemmas.List.{get_or-map, get_or_default, length-map, map-append, map_more}
use Rattle.std.proofs.lemmas.List.Elements.{All-append, All-cons, All-from_get_or, All-get_or, All-nil}
use Rattle.std.proofs.lemmas.Option.{unwrap_or-slice_get}
use Rattle.std.proofs.lemmas.Slice.Eq.{slice_eq-Decides}
use Rattle.sql_values.specs.declared.value.Value.{Value}
use Rattle.sql_values.specs.declared.value.Value.TheVariants as value
use Rattle.sql_values.specs.Cells.{cell}
use Rattle.sql_values.specs.Order.{text_in}
use Rattle.relation_laws.specs.Equality.{same_row, same_value}
use Rattle.relation_laws.proofs.EqualityLemmas.{same_row_decides, same_value_decides}
use Rattle.group_index.specs.Places.{last_below, place_before}
use Rattle.group_index.specs.Chains.{has_hash, hash_at, last_of_hash}
use Rattle.cell_hashes.specs.Hashes.{hash_of}
use Rattle.group_index.specs.Keys.{AreHashed, AreWide, StandsAt, first_guess, stands_at, key_at, place_of}
use Rattle.group_index.proofs.PlaceLemmas.{last_below-at, last_below-over, last_below-passes, last_below-skip, last_below-within}

-- one more than a place, 0 for none
abbrev pub number_of : Option ℕ → ℕ
number_of None = 0
number_of (Some place) = suc place

number-before : (n : ℕ) → number_of (place_before n) ≡ n
number-before zero = refl
number-before (suc n) = refl

-- the place is one, and has this hash
abbrev pub IsPlaceOf : List ℕ → ℕ → ℕ → Type 0
IsPlaceOf hashes hash place = (place < length hashes) × (hash_at hashes place ≡ hash)

-- keys further up are passed over
pub record IsAt (keys : List (List Value)) (hashes : List ℕ) (key : List Value) (found : Option ℕ) : Type 0 where
  pub same : last_below (stands_at keys key) (length keys) ≡ last_below (stands_at keys key) (number_of found)
  pub at : IfSome found (IsPlaceOf hashes (hash_of key))

-- going on ends
pub goes-down : (hashes : List ℕ) (hash place : ℕ) (found before : Option ℕ) → before ≡ last_of_hash hashes hash place → found ≡ Some place → number_of before < number_of found
goes-down hashes hash place found before e f =
    omega (arith, ap number_of e, number-before (last_below (has_hash hashes hash) place), last_below-within (has_hash hashes hash) place, ap number_of f)

module _ (keys : List (List Value)) (hashes : List ℕ) (key : List Value) (hashed : AreHashed keys hashes) where
  long : length hashes ≡ length keys
  long = ap length hashed ∙ length-map keys hash_of

  hash-key : (place : ℕ) → place < length keys → hash_at hashes place ≡ hash_of (key_at keys place)
  hash-key place lt = ap (λ hs. hash_at hs place) hashed ∙ get_or-map hash_of keys place [] 0 lt

  -- a key's hash stands where it stands
  pub skipped : (n : ℕ) → n ≤ length keys → last_below (stands_at keys key) n ≡ last_below (stands_at keys key) (number_of (last_of_hash hashes (hash_of key) n))
  skipped n le =
      last_below-skip (has_hash hashes (hash_of key)) (stands_at keys key) n
      (λ k lt is. eq-eqb (hash_at hashes k) (hash_of key) (hash-key k (omega (arith, lt, le)) ∙ ap hash_of ((same_row_decides (key_at keys k) key).0 is)))
      ∙ ap (last_below (stands_at keys key)) (sym (number-before (last_below (has_hash hashes (hash_of key)) n)))

  place-at : (n m : ℕ) → m ≡ last_below (has_hash hashes (hash_of key)) n → n ≤ length keys → IfSome (place_before m) (IsPlaceOf hashes (hash_of key))
  place-at n zero e le = tt
  place-at n (suc place) e le = (
    omega (arith, e, le, long, last_below-within (has_hash hashes (hash_of key)) n),
    eqb-true (hash_at hashes place) (hash_of key) (last_below-passes (has_hash hashes (hash_of key)) n place (sym e)),
  )

  pub is-at : (n : ℕ) → n ≤ length keys → last_below (stands_at keys key) (length keys) ≡ last_below (stands_at keys key) n → IsAt keys hashes key (last_of_hash hashes (hash_of key) n)
  is-at n le same = record {
    same = same ∙ skipped n le;
    at = place-at n (last_below (has_hash hashes (hash_of key)) n) refl le;
  }

  pub begins-at : IsAt keys hashes key (last_of_hash hashes (hash_of key) (length keys))
  begins-at = is-at (length keys) (omega arith) refl

  pub goes-on : (place : ℕ) → IsAt keys hashes key (Some place) → same_row (key_at keys place) key ≡ false
      → IsAt keys hashes key (last_of_hash hashes (hash_at hashes place) place)
  goes-on place at other =
      let within : place ≤ length keys = omega (arith, at.at.0, long) in
      subst (λ (h : ℕ). IsAt keys hashes key (last_of_hash hashes h place)) (sym at.at.1)
      (is-at place within (at.same ∙ last_below-over (stands_at keys key) place other))

  pub stands-at : (place : ℕ) → IsAt keys hashes key (Some place) → same_row (key_at keys place) key ≡ true → Some place ≡ place_of keys key
  stands-at place at is = sym (ap place_before (at.same ∙ last_below-at (stands_at keys key) place is))

  pub stands-nowhere : IsAt keys hashes key None → None ≡ place_of keys key
  stands-nowhere at = sym (ap place_before at.same)

-- the width of a key, and of one more
pub key-wide : (width : ℕ) (held keys : List (List Value)) (place : ℕ) → held ≡ keys → place < length keys → AreWide width held → length (key_at keys place) ≡ width
key-wide width held keys place same lt wide =
    ap (λ ks. length (key_at ks place)) (sym same) ∙ All-get_or (λ key. length key ≡ width) held place [] (omega (arith, lt, ap length same)) wide

pub wide-more : (width : ℕ) (keys : List (List Value)) (key : List Value) → AreWide width keys → length key ≡ width → AreWide width (keys ++ key ∷ [])
wide-more width keys key wide is =
    All-append (λ k. length k ≡ width) keys (key ∷ []) wide (All-cons (λ k. length k ≡ width) key [] is (All-nil (λ k. length k ≡ width)))

-- keys compared cell by cell
pub cell-there : (key : List Value) (i : ℕ) (v : Value) → v ≡ cell key i → i < length key → v ≡ get_or key i v
cell-there key i v is lt = is ∙ unwrap_or-slice_get key i value.Null ∙ get_or_default key i value.Null v lt

pub cells-same : (key other : List Value) (i : ℕ) (v w d : Value) → i < length key → length key ≡ length other → v ≡ get_or key i v → w ≡ get_or other i d → same_value v w ≡ true
    → same_row (drop i key) (drop i other) ≡ same_row (drop (i + 1) key) (drop (i + 1) other)
cells-same [] other i v w d lt level e f is = absurd (omega (arith, lt))
cells-same (x ∷ key) [] i v w d lt level e f is = absurd (omega (arith, level))
cells-same (x ∷ key) (y ∷ other) zero v w d lt level e f is = ap (λ b. b && same_row key other) ((λ i. same_value (sym e i) (sym f i)) ∙ is)
cells-same (x ∷ key) (y ∷ other) (suc i) v w d lt level e f is =
    let more : suc i + 1 ≡ suc (i + 1) = omega arith in
    cells-same key other i v w d (omega (arith, lt)) (omega (arith, level)) e f is
    ∙ ap (λ n. same_row (drop n (x ∷ key)) (drop n (y ∷ other))) (sym more)

pub cells-differ : (key other : List Value) (i : ℕ) (v w d : Value) → i < length key → length key ≡ length other → v ≡ get_or key i v → w ≡ get_or other i d → same_value v w ≡ false
    → same_row (drop i key) (drop i other) ≡ false
cells-differ [] other i v w d lt level e f is = absurd (omega (arith, lt))
cells-differ (x ∷ key) [] i v w d lt level e f is = absurd (omega (arith, level))
cells-differ (x ∷ key) (y ∷ other) zero v w d lt level e f is = ap (λ b. b && same_row key other) ((λ i. same_value (sym e i) (sym f i)) ∙ is)
cells-differ (x ∷ key) (y ∷ other) (suc i) v w d lt level e f is = cells-differ key other i v w d (omega (arith, lt)) (omega (arith, level)) e f is

pub lengths-differ : (key other : List Value) → length key ≢ length other → same_row key other ≡ false
lengths-differ [] [] ne = absurd (ne refl)
lengths-differ [] (y ∷ other) ne = refl
lengths-differ (x ∷ key) [] ne = refl
lengths-differ (x ∷ key) (y ∷ other) ne = and_right (same_value x y) (same_row key other) (lengths-differ key other (λ e. ne (omega (arith, e))))
  where
    and_right : (a b : Bool) → b ≡ false → (a && b) ≡ false
    and_right true b e = e
    and_right false b e = refl

-- a key of one cell
and_true : (b : Bool) → b ≡ (b && true)
and_true true = refl
and_true false = refl

pub one-cell : (key : List Value) (v w : Value) (same : Bool) → length key ≡ 1 → v ≡ cell key 0 → same ≡ same_value v w → same ≡ same_row key (w ∷ [])
one-cell [] v w same long is e = absurd (omega (arith, long))
one-cell (x ∷ []) v w same long is e = e ∙ ap (λ u. same_value u w) is ∙ and_true (same_value x w)
one-cell (x ∷ y ∷ key) v w same long is e = absurd (omega (arith, long))

-- texts are the same where their bytes are
decided : (a b : Bool) → (a ≡ true → b ≡ true) → (b ≡ true → a ≡ true) → a ≡ b
decided true b f g = sym (f refl)
decided false true f g = g refl
decided false false f g = refl

pub texts-same : (bytes others : List ℕ) (v w : Value) → v ≡ value.Varchar bytes → w ≡ value.Varchar others → bytes_eq bytes others ≡ same_value v w
texts-same bytes others v w e f =
    let exact = slice_eq-Decides (λ a b. (eqb-true a b, eq-eqb a b)) bytes others (bytes_eq bytes others) refl in
    let same = same_value_decides (value.Varchar bytes) (value.Varchar others) in
    decided (bytes_eq bytes others) (same_value (value.Varchar bytes) (value.Varchar others)) (λ h. same.1 (ap value.Varchar (exact.0 h))) (λ h. exact.1 (ap text_in (same.0 h)))
    ∙ (λ i. same_value (sym e i) (sym f i))

-- a key that stands nowhere, and one that stands at a place
none-at : (test : ℕ → Bool) (n k : ℕ) (b : Bool) → test n ≡ b → last_below test (suc n) ≡ 0 → (last_below test n ≡ 0 → k < n → test k ≡ false) → k < suc n → (k < n) ⊎ (n ≤ k) → test k ≡ false
none-at test n k true e none below lt h = absurd (omega (arith, none, last_below-at test n e))
none-at test n k false e none below lt (inl less) = below (sym (last_below-over test n e) ∙ none) less
none-at test n k false e none below lt (inr more) = let same : k ≡ n = omega (arith, lt, more) in ap test same ∙ e

none-below : (test : ℕ → Bool) (n k : ℕ) → last_below test n ≡ 0 → k < n → test k ≡ false
none-below test zero k none lt = absurd (omega (arith, lt))
none-below test (suc n) k none lt = none-at test n k (test n) refl none (none-below test n k) lt (cases_lt k n)

number-of_none : (n : ℕ) → None ≡ place_before n → n ≡ 0
number-of_none zero e = refl
number-of_none (suc n) e = cc

number-of_some : (n place : ℕ) → Some place ≡ place_before n → n ≡ suc place
number-of_some zero place e = cc
number-of_some (suc n) place e = ap number_of (sym e)

pub none-stands : (keys : List (List Value)) (key : List Value) → None ≡ place_of keys key → All (λ other. same_row other key ≡ false) keys
none-stands keys key none =
    All-from_get_or (λ other. same_row other key ≡ false) keys []
    (λ k lt. none-below (stands_at keys key) (length keys) k (number-of_none (last_below (stands_at keys key) (length keys)) none) lt)

pub stands-there : (keys : List (List Value)) (key : List Value) (place : ℕ) → Some place ≡ place_of keys key → (place < length keys) × (key_at keys place ≡ key)
stands-there keys key place is =
    let e : last_below (stands_at keys key) (length keys) ≡ suc place = number-of_some (last_below (stands_at keys key) (length keys)) place is in (
      omega (arith, e, last_below-within (stands_at keys key) (length keys)),
      (same_row_decides (key_at keys place) key).0 (last_below-passes (stands_at keys key) (length keys) place e),
    )

-- the first guess of a key by the hashes of the keys
pub guess-by_hash : (keys : List (List Value)) (hashes : List ℕ) (key : List Value) (hash : ℕ) → AreHashed keys hashes → hash ≡ hash_of key
    → last_of_hash hashes hash (length hashes) ≡ first_guess keys key
guess-by_hash keys hashes key hash hashed is =
    (λ i. last_of_hash (hashed i) (is i) (length (hashed i)))
    ∙ ap (last_of_hash (map hash_of keys) (hash_of key)) (length-map keys hash_of)

-- the same of one of some rows
pub guess-of_each : (make : List Value → List Value) (keys rows : List (List Value)) (hashes wanted : List ℕ) (guesses : List (Option ℕ)) (i : ℕ) (d : Option ℕ)
    → AreHashed keys hashes → wanted ≡ map (λ row. hash_of (make row)) rows → guesses ≡ map (λ hash. last_of_hash hashes hash (length hashes)) wanted → i < length rows
    → get_or guesses i d ≡ first_guess keys (make (slice_index_or rows i []))
guess-of_each make keys rows hashes wanted guesses i d hashed wants guess lt =
    let hash = λ (row : List Value). hash_of (make row) in
    let last = λ (h : ℕ). last_of_hash hashes h (length hashes) in
    ap (λ gs. get_or gs i d) (guess ∙ ap (map last) wants)
    ∙ get_or-map last (map hash rows) i 0 d (omega (arith, lt, length-map rows hash))
    ∙ guess-by_hash keys hashes (make (slice_index_or rows i [])) (get_or (map hash rows) i 0) hashed (get_or-map hash rows i [] 0 lt)

-- where the keys of some rows stand: with one more, and one of them
pub stands-more : (make : List Value → List Value) (keys rows : List (List Value)) (found : List (Option ℕ)) (i : ℕ) (place : Option ℕ)
    → i < length rows → StandsAt keys (map make (take i rows)) found → place ≡ place_of keys (make (slice_index_or rows i []))
    → StandsAt keys (map make (take (i + 1) rows)) (found ++ place ∷ [])
stands-more make keys rows found i place lt so_far is =
    ap (λ fs. fs ++ place ∷ []) so_far
    ∙ ap (λ (o : Option ℕ). map (place_of keys) (map make (take i rows)) ++ o ∷ []) is
    ∙ sym (ap (map (place_of keys)) (map_more make rows i [] lt) ∙ map-append (place_of keys) (map make (take i rows)) (make (slice_index_or rows i []) ∷ []))

pub stands-each : (make : List Value → List Value) (keys rows : List (List Value)) (found : List (Option ℕ)) (i : ℕ) (d : Option ℕ)
    → StandsAt keys (map make rows) found → i < length rows → get_or found i d ≡ place_of keys (make (slice_index_or rows i []))
stands-each make keys rows found i d stands lt =
    ap (λ fs. get_or fs i d) stands
    ∙ get_or-map (place_of keys) (map make rows) i [] d (omega (arith, lt, length-map rows make))
    ∙ ap (place_of keys) (get_or-map make rows i [] [] lt)
