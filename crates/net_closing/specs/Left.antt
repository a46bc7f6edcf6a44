-- What is left of what drivers handed back.
use Rattle.std.specs.Prelude.{◌≡◌, ℕ, List, [], ◌∷◌, ◌++◌, All, Option, Some, map, slice_get}
use Rattle.std.specs.declared.alloc.Global.{Global}
use Rattle.std.specs.declared.vec.Vec.{Vec}
use Rattle.operator_core.specs.Rows.{Row}
use Rattle.output_buffer.specs.Seats.{GatherPutState}
use Rattle.driver_loop.specs.Drivers.{DriverState}
use Rattle.driver_loop.specs.Ends.{rows_handed}
use Rattle.driver_loop.specs.Seats.{puts_of}
use Rattle.driver_loop.specs.Turns.{passed_of}
use Rattle.driver_net_laws.specs.Settled.{WasTakenApart, claims_in, deals_in, gather_takes_in, listed, of_number, spread_takes_in}
use Rattle.net_closing.specs.Closing.{HaveKept}
use Rattle.net_closing.specs.Held.{lists_of, seat_at}
use Rattle.net_closing.specs.declared.notes.Notes.{Notes}
use Rattle.net_closing.specs.declared.parts.Parts.{Parts}

abbrev pub outlets_of : DriverState → List GatherPutState
outlets_of d = puts_of d.target

abbrev pub handed_in : DriverState → List (List Row)
handed_in d = rows_handed d.target ∷ []

-- the one at a place
abbrev pub at_place : {X : Type 0} → (DriverState → List X) → ℕ → DriverState → List X
at_place of place d = listed (slice_get (of d) place)

-- what is left is as the drivers have it
pub record AreLeft {X : Type 0} (of : DriverState → List X) (drivers : List DriverState) (rows : List (Vec (Option X) Global)) : Type 0 where
  pub each : (number place : ℕ) (seat : X) → seat_at rows number place ≡ Some seat → slice_get (of_number of drivers number) place ≡ Some seat

pub record ArePartsOf (drivers : List DriverState) (parts : Parts) : Type 0 where
  pub claims : AreLeft claims_in drivers parts.claims.items
  pub gather_takes : AreLeft gather_takes_in drivers parts.gather_takes.items
  pub spread_takes : AreLeft spread_takes_in drivers parts.spread_takes.items
  pub puts : AreLeft outlets_of drivers parts.puts.items
  pub deals : AreLeft deals_in drivers parts.deals.items
  pub rows : AreLeft handed_in drivers parts.rows.items

-- whatever drivers these are parts of, those are too
abbrev pub StayParts : Parts → Parts → Type 0
StayParts old new = (drivers : List DriverState) → ArePartsOf drivers old → ArePartsOf drivers new

-- all is there that the drivers have, in their order
abbrev pub HoldsAll : {X : Type 0} → (DriverState → List X) → List DriverState → List (Vec (Option X) Global) → Type 0
HoldsAll of drivers rows = lists_of rows ≡ map (λ (d : DriverState). map Some (of d)) drivers

abbrev pub counts_held : List (Vec ℕ Global) → List (List ℕ)
counts_held rows = map (λ (row : Vec ℕ Global). row.items) rows

-- how many rows passed each dynamic filter is there, of all drivers in their order
abbrev pub HoldsPassed : List DriverState → List (Vec ℕ Global) → Type 0
HoldsPassed drivers rows = counts_held rows ≡ map passed_of drivers

pub record AreAllOf (drivers : List DriverState) (parts : Parts) : Type 0 where
  pub claims : HoldsAll claims_in drivers parts.claims.items
  pub gather_takes : HoldsAll gather_takes_in drivers parts.gather_takes.items
  pub spread_takes : HoldsAll spread_takes_in drivers parts.spread_takes.items
  pub puts : HoldsAll outlets_of drivers parts.puts.items
  pub deals : HoldsAll deals_in drivers parts.deals.items
  pub rows : HoldsAll handed_in drivers parts.rows.items
  pub passed : HoldsPassed drivers parts.passed.items

-- what the driver has came behind the others
abbrev pub HasMore : {X : Type 0} → (DriverState → List X) → List (Vec (Option X) Global) → DriverState → List (Vec (Option X) Global) → Type 0
HasMore of old d new = lists_of new ≡ lists_of old ++ map Some (of d) ∷ []

pub record HasGained (old : Parts) (d : DriverState) (new : Parts) : Type 0 where
  pub claims : HasMore claims_in old.claims.items d new.claims.items
  pub gather_takes : HasMore gather_takes_in old.gather_takes.items d new.gather_takes.items
  pub spread_takes : HasMore spread_takes_in old.spread_takes.items d new.spread_takes.items
  pub puts : HasMore outlets_of old.puts.items d new.puts.items
  pub deals : HasMore deals_in old.deals.items d new.deals.items
  pub rows : HasMore handed_in old.rows.items d new.rows.items
  pub passed : counts_held new.passed.items ≡ counts_held old.passed.items ++ passed_of d ∷ []

-- drivers were taken apart
pub record WereTaken (drivers : List DriverState) (old new : Notes) (parts : Parts) : Type 0 where
  pub each : All WasTakenApart drivers
  pub kept : HaveKept old new drivers
  pub all : AreAllOf drivers parts
