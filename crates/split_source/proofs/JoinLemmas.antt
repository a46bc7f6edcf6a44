-- What seats know together.
use Rattle.std.proofs.Common.{◌≡◌, ℕ, zero, suc, ◌+◌, ◌<◌, ◌≤◌, List, [], ◌∷◌, ◌++◌, length, refl, sym, ap, ◌∙◌, subst, arith, length-append}
use Rattle.std.specs.Prelude.{sum_by, All, slice_index_or}
use Rattle.std.specs.List.{range_with_len}
use Rattle.std.proofs.lemmas.List.Sums.{sum_by-cons, sum_by-append, sum_by_push}
use Rattle.std.proofs.lemmas.List.Concat.{flat_map-append, flat_map-cons}
use Rattle.split_source.specs.declared.draws.Counts.{Counts}
use Rattle.split_source.specs.declared.draws.Drawn.{Drawn}
use Rattle.split_source.specs.Claims.{together, Showed}
use Rattle.split_source.specs.Gathered.{drawn_by, Joined, AreDrawn}
use Rattle.split_source.specs.Seats.{ClaimsId, SeatState, AreAllOf, AllEnded, numbers_of, ends}
use Rattle.split_source.proofs.NumberLemmas.{weighed_alike}

numbers_push : (h : ℕ → ℕ) (xs : List SeatState) (x : SeatState) → sum_by h (numbers_of (xs ++ x ∷ [])) ≡ sum_by h (numbers_of xs) + sum_by h x.numbers
numbers_push h xs x =
    omega (arith, ap (sum_by h) (flat_map-append (λ (s : SeatState). s.numbers) xs (x ∷ [])), ap (sum_by h) (flat_map-cons (λ (s : SeatState). s.numbers) x []), sum_by-append h (numbers_of xs) (numbers_of (x ∷ [])), sum_by-append h x.numbers [])

pub joined_none : (v : Drawn) → Joined v [] v
joined_none v = record { of = refl; seats = omega arith; ended = omega arith; numbers = λ h. omega arith }

-- one more joins before the others
pub joined_one : (v : Drawn) (xs : List SeatState) (x : SeatState) (w : Drawn) → Joined (together v (drawn_by x)) xs w → Joined v (xs ++ x ∷ []) w
joined_one v xs x w j = record {
  of = j.of;
  seats = omega (arith, j.seats, length-append xs (x ∷ []));
  ended = omega (arith, j.ended, sum_by_push (λ s. ends s.is_ended) xs x);
  numbers = λ h. omega (arith, j.numbers h, numbers_push h xs x, sum_by-append h v.numbers x.numbers);
}

ended_all : (xs : List SeatState) → AllEnded xs → sum_by (λ s. ends s.is_ended) xs ≡ length xs
ended_all [] all = refl
ended_all (x ∷ xs) all = omega (arith, sum_by-cons (λ s. ends s.is_ended) x xs, ap ends (all 0 x (omega arith)), ended_all xs (λ k d h. all (suc k) d (omega (arith, h))))

-- all seats of some claims, of which one was the first, know what the numbers are
pub all_drawn : (claims : ClaimsId) (seats rest : List SeatState) (x : SeatState) (w : Drawn) → seats ≡ rest ++ x ∷ [] → AreAllOf claims seats → x.claims ≡ claims → Joined (drawn_by x) rest w → Showed w → AreDrawn claims.of.count seats
all_drawn claims seats rest x w is all mine j showed =
    let s = showed (omega (arith, j.seats, number, ap (λ (c : Counts). c.seats) of)) in
    subst (AreDrawn claims.of.count) (sym is) (record {
      next = s.0;
      within = subst (λ k. s.0 ≤ k) count s.1;
      last = λ e. s.2 (omega (arith, j.ended, j.seats, both e)) ∙ count;
      same = weighed_alike (numbers_of (rest ++ x ∷ [])) (range_with_len 0 s.0) (λ h. omega (arith, s.3 h, j.numbers h, numbers_push h rest x));
    })
  where
    of : w.of ≡ claims.of
    of = j.of ∙ ap (λ (c : ClaimsId). c.of) mine

    count : w.of.count ≡ claims.of.count
    count = ap (λ (c : Counts). c.count) of

    number : length rest + 1 ≡ claims.of.seats
    number = omega (arith, all.all, ap length is, length-append rest (x ∷ []))

    both : AllEnded (rest ++ x ∷ []) → ends x.is_ended + sum_by (λ (s : SeatState). ends s.is_ended) rest ≡ 1 + length rest
    both e = omega (arith, ended_all (rest ++ x ∷ []) e, sum_by_push (λ (s : SeatState). ends s.is_ended) rest x, length-append rest (x ∷ []))

pub is_drawn_by : (v : Drawn) (seat : SeatState) → v.of ≡ seat.claims.of → v.seats ≡ 1 → v.ended ≡ ends seat.is_ended → v.numbers ≡ seat.numbers → v ≡ drawn_by seat
is_drawn_by v seat of one ended numbers = λ i. record { of = of i; seats = one i; ended = ended i; numbers = numbers i }

module _ (claims : ClaimsId) where
  front_on : (xs : List SeatState) (x : SeatState) → All (λ s. s.claims ≡ claims) (xs ++ x ∷ []) → (k : ℕ) (d : SeatState) → k < length xs → (slice_index_or xs k d).claims ≡ claims
  front_on [] x all k d h = absurd (omega (arith, h))
  front_on (y ∷ xs) x all zero d h = all 0 d (omega (arith, h))
  front_on (y ∷ xs) x all (suc k) d h = front_on xs x (λ j e less. all (suc j) e (omega (arith, less))) k d (omega (arith, h))

  last_on : (xs : List SeatState) (x : SeatState) → All (λ s. s.claims ≡ claims) (xs ++ x ∷ []) → x.claims ≡ claims
  last_on [] x all = all 0 x (omega arith)
  last_on (y ∷ xs) x all = last_on xs x (λ j e less. all (suc j) e (omega (arith, less)))

  pub front_of : (all xs : List SeatState) (x : SeatState) → all ≡ xs ++ x ∷ [] → All (λ s. s.claims ≡ claims) all → All (λ s. s.claims ≡ claims) xs
  front_of all xs x is h = front_on xs x (subst (All (λ (s : SeatState). s.claims ≡ claims)) is h)

  pub last_of : (all xs : List SeatState) (x : SeatState) → all ≡ xs ++ x ∷ [] → All (λ s. s.claims ≡ claims) all → x.claims ≡ claims
  last_of all xs x is h = last_on xs x (subst (All (λ (s : SeatState). s.claims ≡ claims)) is h)
