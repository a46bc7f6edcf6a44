-- The seats that are handed out.
use Rattle.std.proofs.Common.{◌≡◌, All, ℕ, zero, suc, ◌<◌, List, [], ◌∷◌, ◌++◌, length, replicate, refl, ap, sym, ◌∙◌, subst, arith}
use Rattle.std.specs.Prelude.{slice_index_or}
use Rattle.split_source.specs.Seats.{ClaimsId, SeatState, AreAllOf, new_seat, new_seats}

length_new : (x : SeatState) (n : ℕ) → length (replicate n x) ≡ n
length_new x zero = refl
length_new x (suc n) = ap suc (length_new x n)

of_new : (claims : ClaimsId) (n k : ℕ) (d : SeatState) → k < length (replicate n (new_seat claims)) → (slice_index_or (replicate n (new_seat claims)) k d).claims ≡ claims
of_new claims zero k d h = absurd (omega (arith, h))
of_new claims (suc n) zero d h = refl
of_new claims (suc n) (suc k) d h = of_new claims n k d (omega (arith, h))

pub all_new : (claims : ClaimsId) (seats : List SeatState) → seats ≡ replicate claims.of.seats (new_seat claims) → 0 < claims.of.seats → AreAllOf claims seats
all_new claims seats is some = subst (AreAllOf claims) (sym is) (record {
  same = of_new claims claims.of.seats;
  all = length_new (new_seat claims) claims.of.seats;
  some = omega (arith, some, length_new (new_seat claims) claims.of.seats);
})

pub alone : (seat : SeatState) → seat.claims.of.seats ≡ 1 → AreAllOf seat.claims (seat ∷ [])
alone seat one = record { same = mine; all = sym one; some = omega arith }
  where
    mine : (k : ℕ) (d : SeatState) → k < length (seat ∷ []) → (slice_index_or (seat ∷ []) k d).claims ≡ seat.claims
    mine zero d h = refl
    mine (suc k) d h = absurd (omega (arith, h))

last_new : (claims : ClaimsId) (n : ℕ) (xs : List SeatState) (x : SeatState) → replicate n (new_seat claims) ≡ xs ++ x ∷ [] → x.claims ≡ claims
last_new claims n xs x e = all_on xs (subst (All (λ (s : SeatState). s.claims ≡ claims)) e (of_new claims n))
  where
    all_on : (xs : List SeatState) → All (λ (s : SeatState). s.claims ≡ claims) (xs ++ x ∷ []) → x.claims ≡ claims
    all_on [] all = all 0 x (omega arith)
    all_on (y ∷ xs) all = all_on xs (λ j e less. all (suc j) e (omega (arith, less)))

pub last_seats : (claims : ClaimsId) (all xs : List SeatState) (x : SeatState) → all ≡ xs ++ x ∷ [] → all ≡ new_seats claims → x.claims.of.seats ≡ claims.of.seats
last_seats claims all xs x is new = ap (λ (c : ClaimsId). c.of.seats) (last_new claims claims.of.seats xs x (sym new ∙ is))
