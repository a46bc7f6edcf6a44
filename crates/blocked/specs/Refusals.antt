-- Why a bell does not keep a waiter.
use Rattle.std.specs.Prelude.{◌≡◌, ℕ, true, false, Result, Ok, Err}
use Rattle.blocked.specs.declared.bell.NotParked.{NotParked}
use Rattle.blocked.specs.declared.bell.NotParked.TheVariants.{Rung, Closed, Memory}
use Rattle.blocked.specs.Bells.{BellState, HasRung}

-- kept at an open bell that has not rung; closed; open and rung; or memory was wanting
abbrev pub IsRefusal : {W : Type 0} → BellState W → ℕ → W → Result (Unit {0}) (NotParked W) → Type 0
IsRefusal bell seen w (Ok done) = (bell.is_closed ≡ false) × ¬ HasRung bell seen
IsRefusal bell seen w (Err (Closed back)) = (bell.is_closed ≡ true) × (back ≡ w)
IsRefusal bell seen w (Err (Rung back)) = (bell.is_closed ≡ false) × HasRung bell seen × (back ≡ w)
IsRefusal bell seen w (Err (Memory back)) = (bell.is_closed ≡ false) × (¬ HasRung bell seen) × (back ≡ w)

-- the waiter that was not kept
abbrev pub handed_back : {W : Type 0} → NotParked W → W
handed_back (Rung back) = back
handed_back (Closed back) = back
handed_back (Memory back) = back
