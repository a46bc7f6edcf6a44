-- What all seats of some claims drew, taken together.
use Rattle.std.specs.Prelude.{◌≡◌, ℕ, ◌+◌, ◌≤◌, List, length, sum_by}
use Rattle.std.specs.List.{range_with_len}
use Rattle.sql_values.specs.Bags.{SameBag, SubBag}
use Rattle.split_source.specs.declared.draws.Drawn.{Drawn}
use Rattle.split_source.specs.Seats.{ClaimsId, SeatState, AreAllOf, AllEnded, numbers_of, ends}

-- what one seat knows
abbrev pub drawn_by : SeatState → Drawn
drawn_by seat = record { of = seat.claims.of; seats = 1; ended = ends seat.is_ended; numbers = seat.numbers }

-- after what was known before, and what these seats know
pub record Joined (before : Drawn) (all : List SeatState) (after : Drawn) : Type 0 where
  pub of : after.of ≡ before.of
  pub seats : after.seats ≡ before.seats + length all
  pub ended : after.ended ≡ before.ended + sum_by (λ s. ends s.is_ended) all
  pub numbers : (h : ℕ → ℕ) → sum_by h after.numbers ≡ sum_by h before.numbers + sum_by h (numbers_of all)

-- The numbers are those below the next number, which is at most the count, and is the count where
-- each seat met the end.
pub record AreDrawn (count : ℕ) (seats : List SeatState) : Type 0 where
  pub next : ℕ
  pub within : next ≤ count
  pub last : AllEnded seats → next ≡ count
  pub same : SameBag (numbers_of seats) (range_with_len 0 next)

-- this is how many numbers the claims of these seats have
abbrev pub IsCount : List SeatState → ℕ → Type 0
IsCount seats n = (claims : ClaimsId) → AreAllOf claims seats → n ≡ claims.of.count

-- the numbers are distinct, and below the count
abbrev pub AreDistinct : List SeatState → Type 0
AreDistinct seats =
    (claims : ClaimsId) → AreAllOf claims seats
    → SubBag (numbers_of seats) (range_with_len 0 claims.of.count)

-- where each seat met the end, the numbers are those below the count, each once
abbrev pub AreWhole : List SeatState → Type 0
AreWhole seats =
    (claims : ClaimsId) → AreAllOf claims seats → AllEnded seats
    → SameBag (numbers_of seats) (range_with_len 0 claims.of.count)
