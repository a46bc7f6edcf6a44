-- What several seats of an edge know together.
use Rattle.std.specs.Prelude.{◌≡◌, ℕ, ◌+◌, ◌≤◌, All, List, length, sum_by}
use Rattle.output_buffer.specs.declared.edge.EdgeView.{EdgeView}
use Rattle.output_buffer.specs.declared.piece.Piece.{Piece}
use Rattle.output_buffer.specs.Edges.{end_count}
use Rattle.output_buffer.specs.Seats.{GatherPutState, SpreadTakeState, put_by, taken_by}

-- after what was known before, and what these putters know
pub record JoinedPuts (before : EdgeView) (all : List GatherPutState) (after : EdgeView) : Type 0 where
  pub parts : after.parts ≡ before.parts + length all
  pub once : end_count (put_by all) ≤ length all
  pub each : All (λ s. end_count s.put ≤ 1) all
  pub putting : after.putting + end_count (put_by all) ≡ before.putting + length all
  pub put : (weight : Piece → ℕ) → sum_by weight after.put ≡ sum_by weight before.put + sum_by weight (put_by all)
  pub took : (weight : Piece → ℕ) → sum_by weight after.took ≡ sum_by weight before.took

-- after what was known before, and what these takers know
pub record JoinedTakes (before : EdgeView) (all : List SpreadTakeState) (after : EdgeView) : Type 0 where
  pub parts : after.parts ≡ before.parts + length all
  pub putting : after.putting ≡ before.putting
  pub put : (weight : Piece → ℕ) → sum_by weight after.put ≡ sum_by weight before.put
  pub took : (weight : Piece → ℕ) → sum_by weight after.took ≡ sum_by weight before.took + sum_by weight (taken_by all)
