-- What is left of what drivers handed back.
use Rattle.std.proofs.Common.{◌≡◌, ◌++◌, ◌∙◌, ℕ, zero, suc, List, [], ◌∷◌, Option, Some, None, sym, subst, ap}
use Rattle.std.specs.Prelude.{map, option_map, slice_get, unwrap_or}
use Rattle.std.proofs.lemmas.List.{map-append}
use Rattle.std.specs.declared.alloc.Global.{Global}
use Rattle.std.specs.declared.vec.Vec.{Vec}
use Rattle.driver_loop.specs.Drivers.{DriverState}
use Rattle.driver_loop.specs.Turns.{passed_of}
use Rattle.driver_net_laws.specs.Settled.{claims_in, deals_in, gather_takes_in, listed, of_number, spread_takes_in}
use Rattle.net_closing.specs.Held.{HoldsNoMore, held, seat_at, seat_in}
use Rattle.net_closing.specs.Left.{AreAllOf, AreLeft, ArePartsOf, HasGained, HasMore, HoldsAll, at_place, handed_in, outlets_of}
use Rattle.net_closing.specs.declared.parts.Parts.{Parts}

pub left_fewer : {X : Type 0} (of : DriverState → List X) (drivers : List DriverState) (old new : List (Vec (Option X) Global)) → AreLeft of drivers old → HoldsNoMore old new → AreLeft of drivers new
left_fewer of drivers old new left fewer = record { each = λ number place seat is. left.each number place seat (fewer.each number place seat is) }

one_listed : {X : Type 0} (of : DriverState → List X) (place : ℕ) (seat : X) (d : Option DriverState) → slice_get (unwrap_or (option_map of d) []) place ≡ Some seat
    → unwrap_or (option_map (at_place of place) d) [] ≡ seat ∷ []
one_listed of place seat None is = cc
one_listed of place seat (Some d) is = ap listed is

-- one that was there is that of its driver
pub one_taken : {X : Type 0} (of : DriverState → List X) (drivers : List DriverState) (rows : List (Vec (Option X) Global)) (number place : ℕ) (seat : X) → AreLeft of drivers rows
    → seat_at rows number place ≡ Some seat → of_number (at_place of place) drivers number ≡ seat ∷ []
one_taken of drivers rows number place seat left is = one_listed of place seat (slice_get drivers number) (left.each number place seat is)

held_some : {X : Type 0} (xs : List X) (place : ℕ) (seat : X) → held (slice_get (map (λ (x : X). Some x) xs) place) ≡ Some seat → slice_get xs place ≡ Some seat
held_some [] place seat is = cc
held_some (x ∷ xs) zero seat is = is
held_some (x ∷ xs) (suc place) seat is = held_some xs place seat is

seat_of_driver : {X : Type 0} (of : DriverState → List X) (drivers : List DriverState) (number place : ℕ) (seat : X)
    → seat_in (map (λ (d : DriverState). map Some (of d)) drivers) number place ≡ Some seat → slice_get (of_number of drivers number) place ≡ Some seat
seat_of_driver of [] number place seat is = cc
seat_of_driver of (d ∷ drivers) zero place seat is = held_some (of d) place seat is
seat_of_driver of (d ∷ drivers) (suc number) place seat is = seat_of_driver of drivers number place seat is

pub left_of_all : {X : Type 0} (of : DriverState → List X) (drivers : List DriverState) (rows : List (Vec (Option X) Global)) → HoldsAll of drivers rows → AreLeft of drivers rows
left_of_all of drivers rows all = record {
  each = λ number place seat is. seat_of_driver of drivers number place seat (subst (λ (held : List (List (Option _))). seat_in held number place ≡ Some seat) all is);
}

pub parts_of_all : (drivers : List DriverState) (parts : Parts) → AreAllOf drivers parts → ArePartsOf drivers parts
parts_of_all drivers parts all = record {
  claims = left_of_all claims_in drivers parts.claims.items all.claims;
  gather_takes = left_of_all gather_takes_in drivers parts.gather_takes.items all.gather_takes;
  spread_takes = left_of_all spread_takes_in drivers parts.spread_takes.items all.spread_takes;
  puts = left_of_all outlets_of drivers parts.puts.items all.puts;
  deals = left_of_all deals_in drivers parts.deals.items all.deals;
  rows = left_of_all handed_in drivers parts.rows.items all.rows;
}

all_more : {X : Type 0} (of : DriverState → List X) (done : List DriverState) (d : DriverState) (old new : List (Vec (Option X) Global)) → HoldsAll of done old → HasMore of old d new
    → HoldsAll of (done ++ d ∷ []) new
all_more of done d old new all more =
    more ∙ ap (λ (rows : List (List (Option _))). rows ++ map Some (of d) ∷ []) all ∙ sym (map-append (λ (x : DriverState). map Some (of x)) done (d ∷ []))

pub parts_more : (done : List DriverState) (d : DriverState) (old new : Parts) → AreAllOf done old → HasGained old d new → AreAllOf (done ++ d ∷ []) new
parts_more done d old new all more = record {
  claims = all_more claims_in done d old.claims.items new.claims.items all.claims more.claims;
  gather_takes = all_more gather_takes_in done d old.gather_takes.items new.gather_takes.items all.gather_takes more.gather_takes;
  spread_takes = all_more spread_takes_in done d old.spread_takes.items new.spread_takes.items all.spread_takes more.spread_takes;
  puts = all_more outlets_of done d old.puts.items new.puts.items all.puts more.puts;
  deals = all_more deals_in done d old.deals.items new.deals.items all.deals more.deals;
  rows = all_more handed_in done d old.rows.items new.rows.items all.rows more.rows;
  passed = more.passed ∙ ap (λ (counts : List (List ℕ)). counts ++ passed_of d ∷ []) all.passed ∙ sym (map-append passed_of done (d ∷ []));
}
