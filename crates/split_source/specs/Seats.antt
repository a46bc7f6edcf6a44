-- Claims and their seats, as they are seen.
use Rattle.std.specs.Prelude.{◌≡◌, ◌++◌, ◌∷◌, ℕ, ◌<◌, List, [], Bool, true, false, length, All, cond, flat_map, replicate}
use Rattle.atomic_table.specs.Seated.{TableId}
use Rattle.split_source.specs.declared.draws.Counts.{Counts}

-- which claims: the word that their seats share, how many numbers there are, and how many seats
pub record ClaimsId : Type 0 where
  pub table : TableId
  pub of : Counts

pub record ClaimsState : Type 0 where
  pub id : ClaimsId
  pub is_handed_out : Bool

-- the claims it belongs to, the numbers that it drew, in order, and whether it met the end
pub record SeatState : Type 0 where
  pub claims : ClaimsId
  pub numbers : List ℕ
  pub is_ended : Bool

-- the seats are all those of the claims, and there is one at least
pub record AreAllOf (claims : ClaimsId) (seats : List SeatState) : Type 0 where
  pub same : All (λ s. s.claims ≡ claims) seats
  pub all : length seats ≡ claims.of.seats
  pub some : 0 < length seats

-- the same, of some claims
abbrev pub AreAll : List SeatState → Type 0
AreAll seats = (claims : ClaimsId) × AreAllOf claims seats

abbrev pub new_seat : ClaimsId → SeatState
new_seat claims = record { claims = claims; numbers = []; is_ended = false }

abbrev pub new_seats : ClaimsId → List SeatState
new_seats claims = replicate claims.of.seats (new_seat claims)

-- a seat drew this number
abbrev pub HasDrawn : SeatState → ℕ → SeatState → Type 0
HasDrawn before n after = (n < before.claims.of.count) × (after.numbers ≡ before.numbers ++ n ∷ [])

-- each seat belongs to these claims
abbrev pub AllOf : ClaimsId → List SeatState → Type 0
AllOf claims seats = All (λ s. s.claims ≡ claims) seats

-- the numbers of all seats
abbrev pub numbers_of : List SeatState → List ℕ
numbers_of seats = flat_map (λ s. s.numbers) seats

abbrev pub AllEnded : List SeatState → Type 0
AllEnded seats = All (λ s. s.is_ended ≡ true) seats

-- how many ends a seat met
abbrev pub ends : Bool → ℕ
ends is_ended = cond is_ended 1 0
