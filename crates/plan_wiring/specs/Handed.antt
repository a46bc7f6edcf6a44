-- The seats of what the drivers of a layout share, as they are handed out.
use Rattle.std.specs.Prelude.{◌≡◌, List, [], ◌∷◌, Option, Some, None, false, length, map, replicate}
use Rattle.split_source.specs.Seats as claimed
use Rattle.split_source.specs.Seats.{ClaimsState, SeatState}
use Rattle.hash_join.specs.Cells.{CellState}
use Rattle.dyn_filter.specs.Cells as filter
use Rattle.output_buffer.specs.Seats.{AreGatherPutsOf, AreSpreadTakesOf, GatherPutState, GatherState, GatherTakeState, SpreadPutState, SpreadState, SpreadTakeState, new_gather_puts, new_gather_take, new_spread_put, new_spread_take}
use Rattle.plan_wiring.specs.declared.seats.GatherSeats.{GatherSeats}
use Rattle.plan_wiring.specs.declared.seats.SpreadSeats.{SpreadSeats}
use Rattle.plan_wiring.specs.declared.seats.Seats.{Seats}
use Rattle.plan_wiring.specs.declared.shared.Shared.{Shared}
use Rattle.plan_wiring.specs.Shares.{ClaimForm, EdgeForm, ShareForm}

-- of an edge of one taker
pub record GatherSeatsForm : Type 0 where
  pub puts : List GatherPutState
  pub take : GatherTakeState

-- of an edge of one putter
pub record SpreadSeatsForm : Type 0 where
  pub put : SpreadPutState
  pub takes : List SpreadTakeState

-- those of what a pipe has, and its cells: those of its join, and one of each dynamic filter
pub record SeatsForm : Type 0 where
  pub claims : List SeatState
  pub gathers : List GatherSeatsForm
  pub spreads : List SpreadSeatsForm
  pub cells : List CellState
  pub filters : List filter.CellState

abbrev pub gather_seats_view : GatherSeats → GatherSeatsForm
gather_seats_view seats = record { puts = seats.puts.items; take = seats.take }

abbrev pub spread_seats_view : SpreadSeats → SpreadSeatsForm
spread_seats_view seats = record { put = seats.put; takes = seats.takes.items }

abbrev pub seats_view : Seats → SeatsForm
seats_view seats = record {
  claims = seats.claims.items;
  gathers = map gather_seats_view seats.gathers.items;
  spreads = map spread_seats_view seats.spreads.items;
  cells = seats.cells.now;
  filters = seats.filters.now;
}

-- all seats of an edge, with which nothing was put or taken yet
abbrev pub new_gather_seats : GatherState → GatherSeatsForm
new_gather_seats gather = record { puts = new_gather_puts gather.edge gather.putters; take = new_gather_take gather.edge gather.putters }

abbrev pub new_spread_seats : SpreadState → SpreadSeatsForm
new_spread_seats spread = record { put = new_spread_put spread.edge spread.takers; takes = replicate spread.takers (new_spread_take spread.edge) }

abbrev pub new_claim_seats : Option ClaimsState → List SeatState
new_claim_seats (Some claims) = claimed.new_seats claims.id
new_claim_seats None = []

abbrev pub new_seats : Shared → SeatsForm
new_seats shared = record {
  claims = new_claim_seats shared.claims;
  gathers = map new_gather_seats shared.gathers.items;
  spreads = map new_spread_seats shared.spreads.items;
  cells = shared.cells.items;
  filters = shared.filters.items;
}

-- these are all seats of the edge
pub record AreAllOfGather (gather : GatherState) (seats : GatherSeatsForm) : Type 0 where
  pub of : AreGatherPutsOf gather.edge seats.puts
  pub all : length seats.puts ≡ gather.putters
  pub taker : seats.take.edge ≡ gather.edge
  pub whole : seats.take.putters ≡ gather.putters

pub record AreAllOfSpread (spread : SpreadState) (seats : SpreadSeatsForm) : Type 0 where
  pub of : AreSpreadTakesOf spread.edge seats.takes
  pub all : length seats.takes ≡ spread.takers
  pub putter : seats.put.edge ≡ spread.edge
  pub whole : seats.put.takers ≡ spread.takers

-- no seats were handed out
abbrev pub AreUnusedClaims : Option ClaimForm → Type 0
AreUnusedClaims (Some claims) = claims.is_handed_out ≡ false
AreUnusedClaims None = Unit {0}

abbrev pub AreUnusedEdges : List EdgeForm → Type 0
AreUnusedEdges [] = Unit {0}
AreUnusedEdges (edge ∷ edges) = (edge.is_handed_out ≡ false) × AreUnusedEdges edges

pub record IsUnused (share : ShareForm) : Type 0 where
  pub claims : AreUnusedClaims share.claims
  pub gathers : AreUnusedEdges share.gathers
  pub spreads : AreUnusedEdges share.spreads

abbrev pub AreUnused : List ShareForm → Type 0
AreUnused [] = Unit {0}
AreUnused (share ∷ shares) = IsUnused share × AreUnused shares
