-- Counts of events: they never fall, and stay at the most that 64 bits hold.
use Rattle.std.specs.Prelude.{ℕ, ◌+◌, ◌-◌, ◌^◌, ◌≤◌, min}

-- the most that a count holds
abbrev pub most_count : ℕ
most_count = 2 ^ 64 - 1

-- the count after one more
abbrev pub next_count : ℕ → ℕ
next_count n = min (n + 1) most_count

-- the count rose; one that stands at its most counts as one that rose
abbrev pub Rose : ℕ → ℕ → Type 0
Rose old new = next_count old ≤ new
