-- The seats of what the drivers of a layout share, in lanes: of claims one for each pipe, and of edges one for each edge,
-- pipe by pipe and task by task.
use Rattle.std.specs.Prelude.{List, [], ◌∷◌, ◌++◌, flat_map, map}
use Rattle.split_source.specs.Seats.{SeatState}
use Rattle.output_buffer.specs.Seats.{GatherPutState, GatherTakeState, SpreadPutState, SpreadTakeState}
use Rattle.plan_wiring.specs.Handed.{GatherSeatsForm, SeatsForm, SpreadSeatsForm}
use Rattle.seat_stocks.specs.Shelves.{IsLeft}

pub record StockForm : Type 0 where
  pub claims : List (List SeatState)
  pub puts : List (List GatherPutState)
  pub takes : List (List GatherTakeState)
  pub deals : List (List SpreadPutState)
  pub shares : List (List SpreadTakeState)

abbrev pub no_stock : StockForm
no_stock = record { claims = []; puts = []; takes = []; deals = []; shares = [] }

abbrev pub put_lanes : List GatherSeatsForm → List (List GatherPutState)
put_lanes gathers = map (λ (g : GatherSeatsForm). g.puts) gathers

abbrev pub take_lanes : List GatherSeatsForm → List (List GatherTakeState)
take_lanes gathers = map (λ (g : GatherSeatsForm). g.take ∷ []) gathers

abbrev pub deal_lanes : List SpreadSeatsForm → List (List SpreadPutState)
deal_lanes spreads = map (λ (s : SpreadSeatsForm). s.put ∷ []) spreads

abbrev pub share_lanes : List SpreadSeatsForm → List (List SpreadTakeState)
share_lanes spreads = map (λ (s : SpreadSeatsForm). s.takes) spreads

-- with those of another pipe behind
abbrev pub with_seats : StockForm → SeatsForm → StockForm
with_seats stock seats = record {
  claims = stock.claims ++ seats.claims ∷ [];
  puts = stock.puts ++ put_lanes seats.gathers;
  takes = stock.takes ++ take_lanes seats.gathers;
  deals = stock.deals ++ deal_lanes seats.spreads;
  shares = stock.shares ++ share_lanes seats.spreads;
}

-- and with those of some pipes
abbrev pub with_all : StockForm → List SeatsForm → StockForm
with_all stock seats = record {
  claims = stock.claims ++ map (λ (s : SeatsForm). s.claims) seats;
  puts = stock.puts ++ flat_map (λ (s : SeatsForm). put_lanes s.gathers) seats;
  takes = stock.takes ++ flat_map (λ (s : SeatsForm). take_lanes s.gathers) seats;
  deals = stock.deals ++ flat_map (λ (s : SeatsForm). deal_lanes s.spreads) seats;
  shares = stock.shares ++ flat_map (λ (s : SeatsForm). share_lanes s.spreads) seats;
}

abbrev pub stock_of : List SeatsForm → StockForm
stock_of seats = with_all no_stock seats

-- some seats may have been taken, and none came
pub record AreLeft (old new : StockForm) : Type 0 where
  pub claims : IsLeft old.claims new.claims
  pub puts : IsLeft old.puts new.puts
  pub takes : IsLeft old.takes new.takes
  pub deals : IsLeft old.deals new.deals
  pub shares : IsLeft old.shares new.shares
