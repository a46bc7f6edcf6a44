-- The seats that are handed out.
use Rattle.std.proofs.Common.{◌≡◌, ℕ, zero, suc, ◌<◌, All, replicate, refl, arith}
use Rattle.std.proofs.lemmas.List.{length-replicate}
use Rattle.split_source.specs.Seats.{AreAllOf, ClaimsState, new_seats}
use Rattle.split_source.proofs.SeatLemmas.{all_new}
use Rattle.output_buffer.specs.Seats.{EdgeId, GatherState, SpreadState, SpreadTakeState, new_spread_take}
use Rattle.output_buffer.proofs.SeatLemmas.{length_new_gather_puts, new_gather_puts_are_of}
use Rattle.plan_wiring.specs.Handed.{AreAllOfGather, AreAllOfSpread, new_gather_seats, new_spread_seats}

pub all_claimed : (claims : ClaimsState) → 0 < claims.id.of.seats → AreAllOf claims.id (new_seats claims.id)
all_claimed claims some = all_new claims.id (new_seats claims.id) refl some

pub all_gathered : (gather : GatherState) → AreAllOfGather gather (new_gather_seats gather)
all_gathered gather = record {
  of = new_gather_puts_are_of gather.edge gather.putters;
  all = length_new_gather_puts gather.edge gather.putters;
  taker = refl;
  whole = refl;
}

takes_are_of : (edge : EdgeId) (n : ℕ) → All (λ (s : SpreadTakeState). s.edge ≡ edge) (replicate n (new_spread_take edge))
takes_are_of edge zero k d less = absurd (omega (arith, less))
takes_are_of edge (suc n) zero d less = refl
takes_are_of edge (suc n) (suc k) d less = takes_are_of edge n k d (omega (arith, less))

pub all_spread : (spread : SpreadState) → AreAllOfSpread spread (new_spread_seats spread)
all_spread spread = record {
  of = takes_are_of spread.edge spread.takers;
  all = length-replicate spread.takers (new_spread_take spread.edge);
  putter = refl;
  whole = refl;
}
