-- Reading digits one by one: what is read so far, then the rest.
use Rattle.std.proofs.Common.{◌≡◌, ℕ, ◌+◌, ◌*◌, ◌<◌, ◌≤◌, List, [], ◌∷◌, length, get_or, drop, Option, Some, None, option_and_then, option_map, refl, ap, ◌∙◌, arith, drop-cons, add-one}
use Rattle.std.proofs.lemmas.List.{drop_all}
use Rattle.std.proofs.lemmas.Bool.Decides.{nat_tests}
use Rattle.scalar_texts.specs.Numbers.{digit_of, with_digit, digits_after, below}

pub below-none : (limit n : ℕ) → limit ≤ n → below limit n ≡ None
below-none limit n h = grind (arith, nat_tests)

pub le-from_none : (limit n : ℕ) → below limit n ≡ None → limit ≤ n
le-from_none limit n h = grind (arith, nat_tests)

pub same-from_some : (limit n m : ℕ) → below limit n ≡ Some m → n ≡ m
same-from_some limit n m h = grind (arith, nat_tests)

pub below-some : (limit n : ℕ) → n < limit → below limit n ≡ Some n
below-some limit n h = grind (arith, nat_tests)

-- a number that is too large stays so, whatever digits follow
pub too_large : (limit n : ℕ) (bs : List ℕ) → limit ≤ n → option_and_then (below limit) (digits_after n bs) ≡ None
too_large limit n [] h = below-none limit n h
too_large limit n (b ∷ bs) h =
    elim (digit_of b) as (λ o. option_and_then (below limit) (option_and_then (λ m. digits_after m bs) (option_map (λ d. n * 10 + d) o)) ≡ None)
    [ None ↦ refl | Some d ↦ too_large limit (n * 10 + d) bs (omega arith) ]

stops_at : (limit : ℕ) (bs : List ℕ) (o : Option ℕ) → option_and_then (below limit) o ≡ None → option_and_then (below limit) (option_and_then (λ m. digits_after m bs) o) ≡ None
stops_at limit bs None h = refl
stops_at limit bs (Some m) h = too_large limit m bs (le-from_none limit m h)

goes_at : (limit : ℕ) (bs : List ℕ) (o : Option ℕ) (m : ℕ) → option_and_then (below limit) o ≡ Some m → option_and_then (λ m. digits_after m bs) o ≡ digits_after m bs
goes_at limit bs None m h = cc
goes_at limit bs (Some n) m h = ap (λ k. digits_after k bs) (same-from_some limit n m h)

reading_at : (n i : ℕ) (ds : List ℕ) → i < length ds → digits_after n (drop i ds) ≡ option_and_then (λ m. digits_after m (drop (i + 1) ds)) (with_digit n (get_or ds i 0))
reading_at n i ds h = rw (add-one, drop-cons ds i 0)

pub reading_stops : (limit n i : ℕ) (ds : List ℕ) → i < length ds → option_and_then (below limit) (with_digit n (get_or ds i 0)) ≡ None → option_and_then (below limit) (digits_after n (drop i ds)) ≡ None
reading_stops limit n i ds h e = ap (option_and_then (below limit)) (reading_at n i ds h) ∙ stops_at limit (drop (i + 1) ds) (with_digit n (get_or ds i 0)) e

pub reading_goes : (limit n i : ℕ) (ds : List ℕ) (m : ℕ) → i < length ds → option_and_then (below limit) (with_digit n (get_or ds i 0)) ≡ Some m → digits_after n (drop i ds) ≡ digits_after m (drop (i + 1) ds)
reading_goes limit n i ds m h e = reading_at n i ds h ∙ goes_at limit (drop (i + 1) ds) (with_digit n (get_or ds i 0)) m e

pub reading_ends : (limit n i : ℕ) (ds : List ℕ) → length ds ≤ i → n < limit → option_and_then (below limit) (digits_after n (drop i ds)) ≡ Some n
reading_ends limit n i ds h small = ap (λ bs. option_and_then (below limit) (digits_after n bs)) (drop_all i ds h) ∙ below-some limit n small

pub ruleset reading = (reading_stops, reading_goes, reading_ends)
