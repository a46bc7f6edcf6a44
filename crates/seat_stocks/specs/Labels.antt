-- What the lanes of a stock are of.
use Rattle.std.specs.Prelude.{◌≡◌, ℕ, List, [], Option, Some, None, flat_map, map, slice_get, unwrap_or}
use Rattle.atomic_table.specs.Seated.{TableId}
use Rattle.split_source.specs.Seats.{ClaimsId, ClaimsState, SeatState, new_seat}
use Rattle.output_buffer.specs.Seats.{EdgeId, GatherPutState, GatherState, GatherTakeState, SpreadPutState, SpreadState, SpreadTakeState, new_gather_put, new_gather_take, new_spread_put, new_spread_take}
use Rattle.plan_wiring.specs.declared.shared.Shared.{Shared}
use Rattle.seat_stocks.specs.Shelves.{IsOn}
use Rattle.seat_stocks.specs.Stocks.{StockForm}

-- the claims of a lane of seats that claim, and the edges of lanes of seats that put and take
pub record Labels : Type 0 where
  pub claims : ℕ → ClaimsId
  pub gathers : ℕ → EdgeId
  pub spreads : ℕ → EdgeId

-- each seat is of what its lane is of, and nothing was done with it yet
pub record IsLabelled (labels : Labels) (stock : StockForm) : Type 0 where
  pub claims : (lane : ℕ) (seat : SeatState) → IsOn stock.claims lane seat → seat ≡ new_seat (labels.claims lane)
  pub puts : (lane : ℕ) (seat : GatherPutState) → IsOn stock.puts lane seat → seat ≡ new_gather_put (labels.gathers lane) seat.number
  pub takes : (lane : ℕ) (seat : GatherTakeState) → IsOn stock.takes lane seat → seat ≡ new_gather_take (labels.gathers lane) seat.putters
  pub deals : (lane : ℕ) (seat : SpreadPutState) → IsOn stock.deals lane seat → seat ≡ new_spread_put (labels.spreads lane) seat.takers
  pub shares : (lane : ℕ) (seat : SpreadTakeState) → IsOn stock.shares lane seat → seat ≡ new_spread_take (labels.spreads lane)

-- what stands where there is nothing
abbrev pub no_table : TableId
no_table = record { words = 0; slots = 0; views_name = 0; atom = 0; block = 0; offset = 0; slot_names = [] }

abbrev pub no_claims : ClaimsId
no_claims = record { table = no_table; of = record { count = 0; seats = 0 } }

abbrev pub no_edge : EdgeId
no_edge = record { queue = no_table; room = 0; bells = record { piece = 0; space = 0 } }

abbrev pub claims_id : Option ClaimsState → ClaimsId
claims_id None = no_claims
claims_id (Some claims) = claims.id

-- the item at a place of a list
abbrev pub at_place : {X : Type 0} → X → List X → ℕ → X
at_place none list place = unwrap_or (slice_get list place) none

-- those of what pipes share
abbrev pub labels_of : List Shared → Labels
labels_of pipes = record {
  claims = at_place no_claims (map (λ (s : Shared). claims_id s.claims) pipes);
  gathers = at_place no_edge (flat_map (λ (s : Shared). map (λ (g : GatherState). g.edge) s.gathers.items) pipes);
  spreads = at_place no_edge (flat_map (λ (s : Shared). map (λ (s : SpreadState). s.edge) s.spreads.items) pipes);
}
