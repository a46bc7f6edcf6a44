-- The rule of the claims: one word, the next number, and what each seat drew.
use Rattle.std.specs.Prelude.{◌≡◌, ℕ, ◌+◌, ◌-◌, ◌^◌, ◌<◌, ◌≤◌, List, [], ◌∷◌, ◌++◌, min, sum_by}
use Rattle.std.specs.List.{range_with_len}
use mathlib.Core.Option.{some}
use lib.ListN.{get_elem?}
use Rattle.atomic_table.specs.Table.{State, Me}
use Rattle.split_source.specs.declared.draws.Counts.{Counts}
use Rattle.split_source.specs.declared.draws.Drawn.{Drawn}

-- what is known before the seats are handed out
abbrev pub unshared : Counts → Drawn
unshared counts = record { of = counts; seats = counts.seats; ended = 0; numbers = [] }

abbrev pub fewer : Drawn → Drawn
fewer v = record { of = v.of; seats = v.seats - 1; ended = v.ended; numbers = v.numbers }

abbrev pub one_seat : Drawn → Drawn
one_seat v = record { of = v.of; seats = 1; ended = 0; numbers = [] }

abbrev pub together : Drawn → Drawn → Drawn
together v w = record { of = v.of; seats = v.seats + w.seats; ended = v.ended + w.ended; numbers = v.numbers ++ w.numbers }

abbrev pub spent : Drawn
spent = record { of = record { count = 0; seats = 0 }; seats = 0; ended = 0; numbers = [] }

abbrev pub with_number : Drawn → ℕ → Drawn
with_number v n = record { of = v.of; seats = v.seats; ended = v.ended; numbers = v.numbers ++ n ∷ [] }

abbrev pub with_end : Drawn → Drawn
with_end v = record { of = v.of; seats = v.seats; ended = v.ended + 1; numbers = v.numbers }

-- what a view may be
pub record IsView (counts : Counts) (v : Drawn) : Type 0 where
  pub within : v.ended ≤ v.seats
  pub empty : v.seats ≡ 0 → v.numbers ≡ []
  pub same : 0 < v.seats → v.of ≡ counts

-- The word is n, and all views are these.
pub record ClaimRule (counts : Counts) (n : ℕ) (views : List Drawn) : Type 0 where
  pub small : counts.count + counts.seats < 2 ^ 64
  pub seated : 0 < counts.seats
  -- each number below both the count and the word stands in one list, once, and no other number does:
  -- by whatever weights, the lists weigh what these numbers weigh
  pub drawn : (h : ℕ → ℕ) → sum_by (λ v. sum_by h v.numbers) views ≡ sum_by h (range_with_len 0 (min n counts.count))
  -- who met a number at or past the count has shown the word past it
  pub past : 0 < sum_by (λ v. v.ended) views → counts.count < n
  -- each seat moves the word past the count once
  pub bound : n ≤ counts.count + sum_by (λ v. v.ended) views
  -- the seats are all there
  pub seats : sum_by (λ v. v.seats) views ≡ counts.seats
  pub each : (by : ℕ) (v : Drawn) → get_elem? views by ≡ some v → IsView counts v

abbrev pub Keeps : Counts → State (Unit {0}) Drawn → Type 0
Keeps counts s = (n : ℕ) × (s.words ≡ n ∷ []) × ClaimRule counts n s.views

-- a seat drew n: below the count it is its number, and else it has met the end
pub record Drew (before : Me (Unit {0}) Drawn) (n : ℕ) (after : Me (Unit {0}) Drawn) : Type 0 where
  pub number : n < before.0.of.count → after.0 ≡ with_number before.0 n
  pub at_end : before.0.of.count ≤ n → after.0 ≡ with_end before.0
  pub hands : after.1 ≡ before.1
  pub range : n < 2 ^ 64

-- seats that are all of them know what the numbers are: those below the next number
abbrev pub Showed : Drawn → Type 0
Showed v = v.seats ≡ v.of.seats → (n : ℕ) × (n ≤ v.of.count) × (v.ended ≡ v.seats → n ≡ v.of.count) × ((h : ℕ → ℕ) → sum_by h v.numbers ≡ sum_by h (range_with_len 0 n))
