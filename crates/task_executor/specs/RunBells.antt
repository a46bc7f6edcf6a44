-- What is known of bells that only count.
use Rattle.std.specs.Prelude.{◌≡◌, ◌≤◌, ℕ, List, get_or, min}
use Rattle.count_laws.specs.Counts.{most_count}

-- a count that this bell has, or had before
abbrev pub has_shown : List ℕ → ℕ → ℕ → Type 0
has_shown rings bell count = count ≤ get_or rings bell count

-- the bell rang so often, up to the most that a count holds; of a bell that there is not nothing is said
abbrev pub has_rung : List ℕ → ℕ → ℕ → Type 0
has_rung rings bell times = get_or rings bell (min times most_count) ≡ min times most_count
