-- The last of some places that passes a test.
use Rattle.std.specs.Prelude.{ℕ, zero, suc, Bool, Option, Some, None, if◌then◌else◌}

-- one more than the last place below n that passes, 0 where none does
abbrev pub last_below : (ℕ → Bool) → ℕ → ℕ
last_below test zero = 0
last_below test (suc n) = if test n then suc n else last_below test n

-- the place that is one less, none for 0
abbrev pub place_before : ℕ → Option ℕ
place_before zero = None
place_before (suc place) = Some place
