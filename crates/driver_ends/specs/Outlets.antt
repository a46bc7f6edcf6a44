-- Outlets of a target over edges, as they are seen.
use Rattle.std.specs.Prelude.{◌≡◌, ℕ, ◌<◌, ◌⊎◌, List, [], ◌∷◌, ◌++◌, Bool, true, false, All, Option, Some, None, IfSome, IsSome, length, cond, nat_eq}
use Rattle.sql_values.specs.declared.value.Value.{Value}
use Rattle.col_pages.specs.Pages.{TypedPage}
use Rattle.count_laws.specs.Counts.{Rose, next_count}
use Rattle.blocked.specs.declared.blocked_on.BlockedOn.{BlockedOn}
use Rattle.output_buffer.specs.declared.piece.Piece.{Piece}
use Rattle.output_buffer.specs.declared.piece.Piece.TheVariants.{Rows, End}
use Rattle.output_buffer.specs.Edges.{end_count}
use Rattle.output_buffer.specs.Seats.{EdgeId, GatherPutState, MayPut, rows_of_pieces}

-- a seat of an edge, and the page that the edge did not take yet
pub record OutletState : Type 0 where
  pub seat : GatherPutState
  pub held : Option TypedPage

abbrev pub new_outlet : GatherPutState → OutletState
new_outlet seat = record { seat = seat; held = None }

abbrev pub rows_of_held : Option TypedPage → List (List Value)
rows_of_held None = []
rows_of_held (Some page) = page.rows

-- the rows that an outlet was given: those that went to its seat, and those that it still holds
abbrev pub rows_sent : OutletState → List (List Value)
rows_sent outlet = rows_of_pieces outlet.seat.put ++ rows_of_held outlet.held

-- a page has rows
abbrev pub HasRows : Piece → Type 0
HasRows (Rows page) = 0 < length page.rows
HasRows (End number) = Unit {0}

-- each page that was put has rows, and so has the one that is held, which stands before any End
pub record IsInOrder (put : List Piece) (held : Option TypedPage) : Type 0 where
  pub full : All HasRows put
  pub rows : IfSome held (λ page. 0 < length page.rows)
  pub first : IfSome held (λ page. end_count put ≡ 0)

abbrev pub OutletInOrder : OutletState → Type 0
OutletInOrder outlet = IsInOrder outlet.seat.put outlet.held

abbrev pub IsClear : OutletState → Type 0
IsClear outlet = outlet.held ≡ None

-- a seat may put the piece, which is not without rows, and no page is held that stands before it
pub record MayPutNow (outlet : OutletState) (piece : Piece) : Type 0 where
  pub may : MayPut outlet.seat piece
  pub full : HasRows piece
  pub clear : IsClear outlet

abbrev pub HasPutEnd : OutletState → Type 0
HasPutEnd outlet = 0 < end_count outlet.seat.put

-- how often this bell was to be rung for an outlet: once for each piece that it put, where it is the bell of its pieces
abbrev pub outlet_dues : OutletState → ℕ → ℕ
outlet_dues outlet bell = cond (nat_eq bell outlet.seat.edge.bells.piece) (length outlet.seat.put) 0

-- what an outlet keeps while it puts: its rows and its seat's place, and before it is told to end its Ends too
pub record OutletKept : Type 0 where
  pub rows : List (List Value)
  pub edge : EdgeId
  pub number : ℕ
  pub ends : ℕ

abbrev pub outlet_kept : Bool → OutletState → OutletKept
outlet_kept told outlet = record {
  rows = rows_sent outlet;
  edge = outlet.seat.edge;
  number = outlet.seat.number;
  ends = cond told 0 (end_count outlet.seat.put);
}

-- it has put all that it may
pub record IsThrough (told : Bool) (outlet : OutletState) : Type 0 where
  pub clear : IsClear outlet
  pub ended : told ≡ true → HasPutEnd outlet

-- its edge was full, after this count of the space bell was read: it still has its page, or its End
pub record IsStuck (told : Bool) (old new : OutletState) (on : BlockedOn) : Type 0 where
  pub full : Rose old.seat.fulls new.seat.fulls
  pub bell : on.bell ≡ new.seat.edge.bells.space
  pub seen : on.seen ≡ new.seat.looked_at
  pub waits : on.rung ≡ false
  pub left : IsSome new.held ⊎ ((told ≡ true) × (end_count new.seat.put ≡ 0))

-- the page of a piece that was handed back
abbrev pub page_back : Piece → Option TypedPage
page_back (Rows page) = Some page
page_back (End number) = None

-- a piece was put
abbrev pub outlet_put : OutletState → Piece → OutletState
outlet_put outlet piece = record outlet { seat = record outlet.seat { put = outlet.seat.put ++ piece ∷ [] } }

-- a piece found no room, after this count was read
abbrev pub outlet_full : OutletState → Piece → ℕ → OutletState
outlet_full outlet piece count = record {
  seat = record outlet.seat { fulls = next_count outlet.seat.fulls; looked_at = count };
  held = page_back piece;
}
