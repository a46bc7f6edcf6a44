-- The seats of lanes are of what their labels say.
use Rattle.std.proofs.Common.{◌≡◌, ℕ, zero, suc, List, [], ◌∷◌, ◌++◌, All, map, Option, Some, None, refl}
use Rattle.std.specs.Prelude.{flat_map, slice_get}
use Rattle.std.proofs.lemmas.List.Elements.{All-cons, All-nil, All-push, All-replicate}
use Rattle.split_source.specs.Seats.{ClaimsId, ClaimsState, SeatState, new_seat}
use Rattle.output_buffer.specs.Seats.{EdgeId, GatherPutState, GatherState, GatherTakeState, SpreadPutState, SpreadState, SpreadTakeState, new_gather_put, new_gather_puts, new_gather_take, new_spread_put, new_spread_take}
use Rattle.plan_wiring.specs.declared.shared.Shared.{Shared}
use Rattle.plan_wiring.specs.Handed.{GatherSeatsForm, SeatsForm, SpreadSeatsForm, new_claim_seats, new_gather_seats, new_seats, new_spread_seats}
use Rattle.seat_stocks.specs.Labels.{IsLabelled, Labels, at_place, claims_id, labels_of, no_claims, no_edge}
use Rattle.seat_stocks.specs.Shelves.{IsOn, lane_of}
use Rattle.seat_stocks.specs.Stocks.{AreLeft, StockForm, stock_of}
use Rattle.seat_stocks.proofs.ShelfLemmas.{all_at}

module _ {E X : Type 0} (none : E) (P : E → X → Type 0) where
  abbrev Labelled : List E → List (List X) → Type 0
  Labelled labels lanes = (lane : ℕ) (x : X) → IsOn lanes lane x → P (at_place none labels lane) x

  no_lane : Labelled [] []
  no_lane lane x on = absurd (nothing on.there)
    where
      nothing : slice_get (lane_of [] lane) on.place ≡ Some x → ⊥
      nothing there = cc

  one_lane : (label : E) (labels : List E) (lane : List X) (lanes : List (List X)) → All (P label) lane → Labelled labels lanes → Labelled (label ∷ labels) (lane ∷ lanes)
  one_lane label labels lane lanes own rest zero x on = all_at (P label) lane on.place x own on.there
  one_lane label labels lane lanes own rest (suc k) x on = rest k x (record { place = on.place; there = on.there })

  -- a lane for each of these, before others
  some_lanes : {A B : Type 0} (edge : A → E) (seats : A → B) (of : B → List X) (all : List A) (labels : List E) (lanes : List (List X))
      → ((a : A) → All (P (edge a)) (of (seats a))) → Labelled labels lanes → Labelled (map edge all ++ labels) (map of (map seats all) ++ lanes)
  some_lanes edge seats of [] labels lanes own rest = rest
  some_lanes edge seats of (a ∷ all) labels lanes own rest =
      one_lane (edge a) (map edge all ++ labels) (of (seats a)) (map of (map seats all) ++ lanes) (own a) (some_lanes edge seats of all labels lanes own rest)

all_puts : (edge : EdgeId) (n : ℕ) → All (λ (seat : GatherPutState). seat ≡ new_gather_put edge seat.number) (new_gather_puts edge n)
all_puts edge zero = All-nil _
all_puts edge (suc n) = All-push (λ (seat : GatherPutState). seat ≡ new_gather_put edge seat.number) (new_gather_puts edge n) (new_gather_put edge n) (all_puts edge n) refl

abbrev IsClaim : ClaimsId → SeatState → Type 0
IsClaim claims seat = seat ≡ new_seat claims

abbrev IsPut : EdgeId → GatherPutState → Type 0
IsPut edge seat = seat ≡ new_gather_put edge seat.number

abbrev IsTake : EdgeId → GatherTakeState → Type 0
IsTake edge seat = seat ≡ new_gather_take edge seat.putters

abbrev IsDeal : EdgeId → SpreadPutState → Type 0
IsDeal edge seat = seat ≡ new_spread_put edge seat.takers

abbrev IsShare : EdgeId → SpreadTakeState → Type 0
IsShare edge seat = seat ≡ new_spread_take edge

claims_fit : (claims : Option ClaimsState) → All (IsClaim (claims_id claims)) (new_claim_seats claims)
claims_fit None = All-nil (IsClaim no_claims)
claims_fit (Some claims) = All-replicate (IsClaim claims.id) claims.id.of.seats (new_seat claims.id) refl

claims_labelled : (pipes : List Shared) → Labelled no_claims IsClaim (map (λ (s : Shared). claims_id s.claims) pipes) (map (λ (s : SeatsForm). s.claims) (map new_seats pipes))
claims_labelled [] = no_lane no_claims IsClaim
claims_labelled (s ∷ pipes) =
    one_lane no_claims IsClaim (claims_id s.claims) (map (λ (s : Shared). claims_id s.claims) pipes) (new_claim_seats s.claims) (map (λ (s : SeatsForm). s.claims) (map new_seats pipes))
    (claims_fit s.claims) (claims_labelled pipes)

abbrev gather_labels : List Shared → List EdgeId
gather_labels pipes = flat_map (λ (s : Shared). map (λ (g : GatherState). g.edge) s.gathers.items) pipes

abbrev spread_labels : List Shared → List EdgeId
spread_labels pipes = flat_map (λ (s : Shared). map (λ (g : SpreadState). g.edge) s.spreads.items) pipes

module _ {X : Type 0} (P : EdgeId → X → Type 0) where
  gathers_labelled : (of : GatherSeatsForm → List X) → ((g : GatherState) → All (P g.edge) (of (new_gather_seats g))) → (pipes : List Shared)
      → Labelled no_edge P (gather_labels pipes) (flat_map (λ (s : SeatsForm). map of s.gathers) (map new_seats pipes))
  gathers_labelled of own [] = no_lane no_edge P
  gathers_labelled of own (s ∷ pipes) =
      some_lanes no_edge P (λ (g : GatherState). g.edge) new_gather_seats of s.gathers.items (gather_labels pipes)
      (flat_map (λ (s : SeatsForm). map of s.gathers) (map new_seats pipes)) own (gathers_labelled of own pipes)

  spreads_labelled : (of : SpreadSeatsForm → List X) → ((g : SpreadState) → All (P g.edge) (of (new_spread_seats g))) → (pipes : List Shared)
      → Labelled no_edge P (spread_labels pipes) (flat_map (λ (s : SeatsForm). map of s.spreads) (map new_seats pipes))
  spreads_labelled of own [] = no_lane no_edge P
  spreads_labelled of own (s ∷ pipes) =
      some_lanes no_edge P (λ (g : SpreadState). g.edge) new_spread_seats of s.spreads.items (spread_labels pipes)
      (flat_map (λ (s : SeatsForm). map of s.spreads) (map new_seats pipes)) own (spreads_labelled of own pipes)

pub all_labelled : (pipes : List Shared) → IsLabelled (labels_of pipes) (stock_of (map new_seats pipes))
all_labelled pipes = record {
  claims = claims_labelled pipes;
  puts = gathers_labelled IsPut (λ (g : GatherSeatsForm). g.puts) (λ g. all_puts g.edge g.putters) pipes;
  takes = gathers_labelled IsTake (λ (g : GatherSeatsForm). g.take ∷ []) (λ g. All-cons (IsTake g.edge) (new_gather_take g.edge g.putters) [] refl (All-nil (IsTake g.edge))) pipes;
  deals = spreads_labelled IsDeal (λ (g : SpreadSeatsForm). g.put ∷ []) (λ g. All-cons (IsDeal g.edge) (new_spread_put g.edge g.takers) [] refl (All-nil (IsDeal g.edge))) pipes;
  shares = spreads_labelled IsShare (λ (g : SpreadSeatsForm). g.takes) (λ g. All-replicate (IsShare g.edge) g.takers (new_spread_take g.edge) refl) pipes;
}

pub labelled_left : (labels : Labels) (old new : StockForm) → AreLeft old new → IsLabelled labels old → IsLabelled labels new
labelled_left labels old new left labelled = record {
  claims = λ lane seat on. labelled.claims lane seat (left.claims lane seat on);
  puts = λ lane seat on. labelled.puts lane seat (left.puts lane seat on);
  takes = λ lane seat on. labelled.takes lane seat (left.takes lane seat on);
  deals = λ lane seat on. labelled.deals lane seat (left.deals lane seat on);
  shares = λ lane seat on. labelled.shares lane seat (left.shares lane seat on);
}
