-- What holds of the items of a list, each at its place.
use Rattle.std.specs.Prelude.{◌≡◌, ℕ, ◌<◌, List, Some, slice_get}

-- of those below a place
abbrev pub EachBelow : {X : Type 0} → (ℕ → X → Type 0) → List X → ℕ → Type 0
EachBelow {X} P list n = (k : ℕ) (x : X) → k < n → slice_get list k ≡ Some x → P k x
