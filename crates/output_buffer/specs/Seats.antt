-- Edges and their seats, as they are seen.
use Rattle.std.specs.Prelude.{◌≡◌, ℕ, zero, suc, ◌-◌, ◌<◌, ◌≤◌, List, [], ◌∷◌, ◌++◌, All, Bool, Option, flat_map}
use Rattle.atomic_table.specs.Seated.{TableId}
use Rattle.crossbeam_queue.specs.declared.array_queue.Doing.{Doing}
use Rattle.crossbeam_queue.specs.declared.array_queue.Slotted.{Slotted}
use Rattle.crossbeam_queue.specs.Passes.{ruled_capacity}
use Rattle.sql_values.specs.declared.value.Value.{Value}
use Rattle.output_buffer.specs.declared.edge.EdgeBells.{EdgeBells}
use Rattle.output_buffer.specs.declared.edge.EdgeView.{EdgeView}
use Rattle.output_buffer.specs.declared.piece.Piece.{Piece}
use Rattle.output_buffer.specs.declared.piece.Piece.TheVariants.{Rows, End}
use Rattle.output_buffer.specs.Edges.{all_parts, edge_view, end_count}

-- which edge: the queue that its seats share, for how many pieces it has room, and its bells
pub record EdgeId : Type 0 where
  pub queue : TableId
  pub room : ℕ
  pub bells : EdgeBells

abbrev pub edge_of : {P A : Type 0} → Slotted (Option Piece) (Doing Piece EdgeView) P A → EdgeBells → EdgeId
edge_of queue bells = record { queue = queue.table.shared.table_id; room = ruled_capacity queue; bells = bells }

pub record GatherState : Type 0 where
  pub edge : EdgeId
  pub putters : ℕ
  pub is_handed_out : Bool

-- the edge it is of, its number among the putters, what it put, in order, how often it found no room, and the count of
-- the bell of free places that its last put in vain was handed
pub record GatherPutState : Type 0 where
  pub edge : EdgeId
  pub number : ℕ
  pub put : List Piece
  pub fulls : ℕ
  pub looked_at : ℕ

-- the edge it is of, how many putters that has, what it took, in order, how often it found nothing, and the count of
-- the bell of pieces that its last take in vain was handed
pub record GatherTakeState : Type 0 where
  pub edge : EdgeId
  pub putters : ℕ
  pub took : List Piece
  pub empties : ℕ
  pub looked_at : ℕ

abbrev pub new_gather_put : EdgeId → ℕ → GatherPutState
new_gather_put edge number = record { edge = edge; number = number; put = []; fulls = 0; looked_at = 0 }

abbrev pub new_gather_puts : EdgeId → ℕ → List GatherPutState
new_gather_puts edge zero = []
new_gather_puts edge (suc putters) = new_gather_puts edge putters ++ new_gather_put edge putters ∷ []

abbrev pub new_gather_take : EdgeId → ℕ → GatherTakeState
new_gather_take edge putters = record { edge = edge; putters = putters; took = []; empties = 0; looked_at = 0 }

-- a putter's own End
abbrev pub HasOwnNumber : ℕ → Piece → Type 0
HasOwnNumber number (Rows page) = Unit {0}
HasOwnNumber number (End other) = other ≡ number

-- a putter puts pages and then one End, its own
pub record MayPut (seat : GatherPutState) (piece : Piece) : Type 0 where
  pub going : end_count seat.put ≡ 0
  pub own : HasOwnNumber seat.number piece

-- these are seats of the edge
abbrev pub AreGatherPutsOf : EdgeId → List GatherPutState → Type 0
AreGatherPutsOf edge seats = All (λ s. s.edge ≡ edge) seats

-- the End of every putter was taken
abbrev pub HasEnded : GatherTakeState → Type 0
HasEnded seat = seat.putters ≤ end_count seat.took

-- what all of these put
abbrev pub put_by : List GatherPutState → List Piece
put_by seats = flat_map (λ s. s.put) seats

abbrev pub rows_of_piece : Piece → List (List Value)
rows_of_piece (Rows page) = page.rows
rows_of_piece (End number) = []

-- the rows of some pieces, one page behind the other
abbrev pub rows_of_pieces : List Piece → List (List Value)
rows_of_pieces pieces = flat_map rows_of_piece pieces

-- The other kind of edge: one putter, many takers.
pub record SpreadState : Type 0 where
  pub edge : EdgeId
  pub takers : ℕ
  pub is_handed_out : Bool

-- the edge it is of, how many takers that has, what it put, in order, how often it found no room, and the count of
-- the bell of free places that its last put in vain was handed
pub record SpreadPutState : Type 0 where
  pub edge : EdgeId
  pub takers : ℕ
  pub put : List Piece
  pub fulls : ℕ
  pub looked_at : ℕ

-- the edge it is of, what it took, in order, how often it found nothing, and the count of the bell of pieces that
-- its last take in vain was handed
pub record SpreadTakeState : Type 0 where
  pub edge : EdgeId
  pub took : List Piece
  pub empties : ℕ
  pub looked_at : ℕ

abbrev pub new_spread_put : EdgeId → ℕ → SpreadPutState
new_spread_put edge takers = record { edge = edge; takers = takers; put = []; fulls = 0; looked_at = 0 }

abbrev pub new_spread_take : EdgeId → SpreadTakeState
new_spread_take edge = record { edge = edge; took = []; empties = 0; looked_at = 0 }

-- the putter puts pages and then one End for each taker
abbrev pub MaySpread : SpreadPutState → Piece → Type 0
MaySpread seat (Rows page) = end_count seat.put ≡ 0
MaySpread seat (End number) = end_count seat.put < seat.takers

-- these are seats of the edge
abbrev pub AreSpreadTakesOf : EdgeId → List SpreadTakeState → Type 0
AreSpreadTakesOf edge seats = All (λ s. s.edge ≡ edge) seats

-- a taker took an End
abbrev pub HasTakenEnd : SpreadTakeState → Type 0
HasTakenEnd seat = 0 < end_count seat.took

-- what all of these took
abbrev pub taken_by : List SpreadTakeState → List Piece
taken_by seats = flat_map (λ s. s.took) seats

-- these took as many Ends as there are takers
abbrev pub HaveEnded : SpreadPutState → List SpreadTakeState → Type 0
HaveEnded put takes = put.takers ≤ end_count (taken_by takes)

-- What the queue's rule has of each seat.
abbrev pub view_of_gather_put : GatherPutState → EdgeView
view_of_gather_put seat = edge_view 1 (1 - end_count seat.put) seat.put []

abbrev pub view_of_gather_take : GatherTakeState → EdgeView
view_of_gather_take seat = edge_view (all_parts - seat.putters) 0 [] seat.took

abbrev pub view_of_spread_put : SpreadPutState → EdgeView
view_of_spread_put seat = edge_view (all_parts - seat.takers) (1 - end_count seat.put) seat.put []

abbrev pub view_of_spread_take : SpreadTakeState → EdgeView
view_of_spread_take seat = edge_view 1 0 [] seat.took
