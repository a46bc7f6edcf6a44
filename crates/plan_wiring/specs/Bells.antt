-- Numbers of bells.
use Rattle.std.specs.Prelude.{◌≡◌, ℕ, ◌+◌, List, [], ◌∷◌, length}
use Rattle.std.specs.List.{range_with_len}
use Rattle.output_buffer.specs.Seats.{GatherState, SpreadState}

-- the numbers from one on, one by one, and the one that follows
pub record AreNumbers (first : ℕ) (numbers : List ℕ) (next : ℕ) : Type 0 where
  pub are : numbers ≡ range_with_len first (length numbers)
  pub follows : next ≡ first + length numbers

abbrev pub gather_bells : GatherState → List ℕ
gather_bells gather = gather.edge.bells.piece ∷ gather.edge.bells.space ∷ []

abbrev pub spread_bells : SpreadState → List ℕ
spread_bells spread = spread.edge.bells.piece ∷ spread.edge.bells.space ∷ []
