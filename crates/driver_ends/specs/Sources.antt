-- Sources over an edge, as they are seen.
use Rattle.std.specs.Prelude.{◌≡◌, ℕ, ◌+◌, ◌-◌, ◌⊎◌, List, [], ◌∷◌, ◌++◌, false, Option, None, IsSome, length, cond, nat_eq, take}
use Rattle.sql_values.specs.declared.value.Value.{Value}
use Rattle.col_pages.specs.Pages.{TypedPage}
use Rattle.count_laws.specs.Counts.{Rose, next_count}
use Rattle.blocked.specs.declared.blocked_on.BlockedOn.{BlockedOn}
use Rattle.output_buffer.specs.declared.piece.Piece.{Piece}
use Rattle.output_buffer.specs.Seats.{GatherTakeState, HasEnded, HasTakenEnd, SpreadTakeState, rows_of_pieces}
use Rattle.driver_ends.specs.Outlets.{page_back, rows_of_held}

-- the seat of a taker alone, and the page that was taken and not handed on yet
pub record LocalState : Type 0 where
  pub seat : GatherTakeState
  pub inbox : Option TypedPage

abbrev pub new_local : GatherTakeState → LocalState
new_local seat = record { seat = seat; inbox = None }

-- the rows of these pieces, but for the last, which are those of the inbox
abbrev pub handed_on : List Piece → Option TypedPage → List (List Value)
handed_on took inbox = take (length (rows_of_pieces took) - length (rows_of_held inbox)) (rows_of_pieces took)

-- the rows of the inbox are the last of those of the pieces
pub record HoldsLast (took : List Piece) (inbox : Option TypedPage) : Type 0 where
  pub before : List (List Value)
  pub whole : rows_of_pieces took ≡ before ++ rows_of_held inbox

-- these rows were handed on: with those of the inbox they are what the seat took, in order
abbrev pub HasLocalTaken : LocalState → List (List Value) → Type 0
HasLocalTaken s taken = rows_of_pieces s.seat.took ≡ taken ++ rows_of_held s.inbox

-- nothing is left to take or to hand on
pub record IsLocalEnded (s : LocalState) : Type 0 where
  pub ended : HasEnded s.seat
  pub clear : s.inbox ≡ None

-- how often this bell was to be rung for it: once for each piece that it took, where it is the bell of the edge's places
abbrev pub local_dues : LocalState → ℕ → ℕ
local_dues s bell = cond (nat_eq bell s.seat.edge.bells.space) (length s.seat.took) 0

-- a piece was taken
abbrev pub local_took : LocalState → Piece → LocalState
local_took s piece = record {
  seat = record s.seat { took = s.seat.took ++ piece ∷ [] };
  inbox = page_back piece;
}

-- nothing was there, after this count was read
abbrev pub local_starved : LocalState → ℕ → LocalState
local_starved s count = record s { seat = record s.seat { empties = next_count s.seat.empties; looked_at = count } }

-- it has a page, or is ended, or took one piece more
abbrev pub IsLocalServed : LocalState → LocalState → Type 0
IsLocalServed old new = (IsSome new.inbox) ⊎ ((HasEnded new.seat) ⊎ (length new.seat.took ≡ length old.seat.took + 1))

-- the edge was empty, after this count of its piece bell was read, and an End is still to come
pub record IsLocalStarved (old new : LocalState) (on : BlockedOn) : Type 0 where
  pub empty : Rose old.seat.empties new.seat.empties
  pub bell : on.bell ≡ new.seat.edge.bells.piece
  pub seen : on.seen ≡ new.seat.looked_at
  pub waits : on.rung ≡ false
  pub clear : new.inbox ≡ None
  pub going : ¬ HasEnded new.seat

-- the seat of one of many takers, and the page that was taken and not handed on yet
pub record RemoteState : Type 0 where
  pub seat : SpreadTakeState
  pub inbox : Option TypedPage

abbrev pub new_remote : SpreadTakeState → RemoteState
new_remote seat = record { seat = seat; inbox = None }

-- these rows were handed on: with those of the inbox they are what the seat took, in order
abbrev pub HasRemoteTaken : RemoteState → List (List Value) → Type 0
HasRemoteTaken s taken = rows_of_pieces s.seat.took ≡ taken ++ rows_of_held s.inbox

-- nothing is left to take or to hand on
pub record IsRemoteEnded (s : RemoteState) : Type 0 where
  pub ended : HasTakenEnd s.seat
  pub clear : s.inbox ≡ None

-- how often this bell was to be rung for it: once for each piece that it took, where it is the bell of the edge's places
abbrev pub remote_dues : RemoteState → ℕ → ℕ
remote_dues s bell = cond (nat_eq bell s.seat.edge.bells.space) (length s.seat.took) 0

-- a piece was taken
abbrev pub remote_took : RemoteState → Piece → RemoteState
remote_took s piece = record {
  seat = record s.seat { took = s.seat.took ++ piece ∷ [] };
  inbox = page_back piece;
}

-- nothing was there, after this count was read
abbrev pub remote_starved : RemoteState → ℕ → RemoteState
remote_starved s count = record s { seat = record s.seat { empties = next_count s.seat.empties; looked_at = count } }

-- it has a page, or is ended, or took one piece more
abbrev pub IsRemoteServed : RemoteState → RemoteState → Type 0
IsRemoteServed old new = (IsSome new.inbox) ⊎ ((HasTakenEnd new.seat) ⊎ (length new.seat.took ≡ length old.seat.took + 1))

-- the edge was empty, after this count of its piece bell was read, and an End is still to come
pub record IsRemoteStarved (old new : RemoteState) (on : BlockedOn) : Type 0 where
  pub empty : Rose old.seat.empties new.seat.empties
  pub bell : on.bell ≡ new.seat.edge.bells.piece
  pub seen : on.seen ≡ new.seat.looked_at
  pub waits : on.rung ≡ false
  pub clear : new.inbox ≡ None
  pub going : ¬ HasTakenEnd new.seat
