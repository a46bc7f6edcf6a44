-- Seats in lanes.
use Rattle.std.specs.Prelude.{◌≡◌, ℕ, List, [], Some, slice_get, unwrap_or}

abbrev pub lane_of : {X : Type 0} → List (List X) → ℕ → List X
lane_of lanes lane = unwrap_or (slice_get lanes lane) []

-- it is one of those in a lane
pub record IsOn {X : Type 0} (lanes : List (List X)) (lane : ℕ) (x : X) : Type 0 where
  pub place : ℕ
  pub there : slice_get (lane_of lanes lane) place ≡ Some x

-- each lane has some of those that it had
abbrev pub IsLeft : {X : Type 0} → List (List X) → List (List X) → Type 0
IsLeft {X} old new = (lane : ℕ) (x : X) → IsOn new lane x → IsOn old lane x
