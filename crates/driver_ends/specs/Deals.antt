-- Targets over an edge of many takers, as they are seen.
use Rattle.std.specs.Prelude.{◌≡◌, ℕ, ◌<◌, ◌≤◌, ◌⊎◌, List, [], ◌∷◌, ◌++◌, Bool, true, false, Option, None, IsSome, length, cond, nat_eq}
use Rattle.sql_values.specs.declared.value.Value.{Value}
use Rattle.col_pages.specs.Pages.{TypedPage}
use Rattle.count_laws.specs.Counts.{Rose, next_count}
use Rattle.blocked.specs.declared.blocked_on.BlockedOn.{BlockedOn}
use Rattle.output_buffer.specs.declared.piece.Piece.{Piece}
use Rattle.output_buffer.specs.Edges.{end_count, ends_in}
use Rattle.output_buffer.specs.Seats.{EdgeId, MaySpread, SpreadPutState, rows_of_pieces}
use Rattle.driver_ends.specs.Outlets.{HasRows, IsInOrder, page_back, rows_of_held}

-- the putter's seat, the page that the edge did not take yet, and whether it was told to finish
pub record DealState : Type 0 where
  pub seat : SpreadPutState
  pub held : Option TypedPage
  pub is_told : Bool

abbrev pub new_deal : SpreadPutState → DealState
new_deal seat = record { seat = seat; held = None; is_told = false }

-- the rows that it was given: those that went to its seat, and those that it still holds
abbrev pub rows_dealt : DealState → List (List Value)
rows_dealt deal = rows_of_pieces deal.seat.put ++ rows_of_held deal.held

-- what it keeps in every state: no End is put before it was told to finish, none before a page that is held, and no
-- page without rows
pub record KeepsDeal (deal : DealState) : Type 0 where
  pub early : deal.is_told ≡ false → end_count deal.seat.put ≡ 0
  pub order : IsInOrder deal.seat.put deal.held

pub record DealWants (deal : DealState) : Type 0 where
  pub going : deal.is_told ≡ false
  pub clear : deal.held ≡ None

-- a seat may put the piece, which is not without rows and no End before it was told to finish, and no page is held
pub record MayDeal (deal : DealState) (piece : Piece) : Type 0 where
  pub may : MaySpread deal.seat piece
  pub full : HasRows piece
  pub told : deal.is_told ≡ false → ends_in piece ≡ 0
  pub clear : deal.held ≡ None

pub record MayDealEnds (deal : DealState) : Type 0 where
  pub told : deal.is_told ≡ true
  pub clear : deal.held ≡ None

-- it put an End for each taker
abbrev pub HasPutEnds : DealState → Type 0
HasPutEnds deal = deal.seat.takers ≤ end_count deal.seat.put

-- it has put all that it may
pub record IsDealtOut (told : Bool) (deal : DealState) : Type 0 where
  pub clear : deal.held ≡ None
  pub ended : told ≡ true → HasPutEnds deal

pub record IsDealt (deal : DealState) : Type 0 where
  pub told : deal.is_told ≡ true
  pub through : IsDealtOut true deal

-- how often this bell was to be rung for it: once for each piece that it put, where it is the bell of its pieces
abbrev pub deal_dues : DealState → ℕ → ℕ
deal_dues deal bell = cond (nat_eq bell deal.seat.edge.bells.piece) (length deal.seat.put) 0

-- what it keeps while it puts: its rows, its seat's place and, before it is told to end, its Ends
pub record DealKept : Type 0 where
  pub rows : List (List Value)
  pub edge : EdgeId
  pub takers : ℕ
  pub is_told : Bool
  pub ends : ℕ

abbrev pub deal_kept : Bool → DealState → DealKept
deal_kept told deal = record {
  rows = rows_dealt deal;
  edge = deal.seat.edge;
  takers = deal.seat.takers;
  is_told = deal.is_told;
  ends = cond told 0 (end_count deal.seat.put);
}

-- the edge was full, after this count of the space bell was read: it still has its page, or Ends
pub record IsDealStuck (told : Bool) (old new : DealState) (on : BlockedOn) : Type 0 where
  pub full : Rose old.seat.fulls new.seat.fulls
  pub bell : on.bell ≡ new.seat.edge.bells.space
  pub seen : on.seen ≡ new.seat.looked_at
  pub waits : on.rung ≡ false
  pub left : IsSome new.held ⊎ ((told ≡ true) × (end_count new.seat.put < new.seat.takers))

-- a piece was put
abbrev pub deal_put : DealState → Piece → DealState
deal_put deal piece = record deal { seat = record deal.seat { put = deal.seat.put ++ piece ∷ [] } }

-- a piece found no room, after this count was read
abbrev pub deal_full : DealState → Piece → ℕ → DealState
deal_full deal piece count = record deal {
  seat = record deal.seat { fulls = next_count deal.seat.fulls; looked_at = count };
  held = page_back piece;
}

-- what a seat put is the first of some rows
pub record HasDealtFirst (given : List (List Value)) (seat : SpreadPutState) : Type 0 where
  pub rest : List (List Value)
  pub whole : given ≡ rows_of_pieces seat.put ++ rest

-- a seat that put all rows, and an End for each taker
pub record HasDealtAll (given : List (List Value)) (seat : SpreadPutState) : Type 0 where
  pub rows : rows_of_pieces seat.put ≡ given
  pub ends : seat.takers ≤ end_count seat.put
