-- Bells and who waits at them.
use Rattle.std.specs.Prelude.{◌≡◌, ℕ, List, [], Bool, true, map, All, ◌≢◌, ◌⊎◌}
use Rattle.blocked.specs.declared.waiters.Parked.{Parked}
use Rattle.count_laws.specs.Counts.{most_count}

-- who waits, without the counts
abbrev pub waiters_of : {W : Type 0} → List (Parked W) → List W
waiters_of parked = map (λ p. p.waiter) parked

-- a bell: how often it rang, whether it is closed, and who waits at it
pub record BellState (W : Type 0) : Type 0 where
  pub count : ℕ
  pub is_closed : Bool
  pub parked : List (Parked W)

-- each waiter had read the count that the bell has, and at a closed bell nobody waits
pub record IsResting {W : Type 0} (bell : BellState W) : Type 0 where
  pub seen : All (λ p. p.seen ≡ bell.count) bell.parked
  pub shut : bell.is_closed ≡ true → bell.parked ≡ []

-- a waiter with this count would sleep through a ring, or past the last count
abbrev pub HasRung : {W : Type 0} → BellState W → ℕ → Type 0
HasRung bell seen = (seen ≢ bell.count) ⊎ (bell.count ≡ most_count)
