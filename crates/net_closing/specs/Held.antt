-- What drivers hand back, until it is taken: a row for each of them, by number, and in it a place for each seat.
use Rattle.std.specs.Prelude.{◌≡◌, ℕ, List, [], Option, Some, None, map, slice_get, unwrap_or}
use Rattle.std.specs.declared.alloc.Global.{Global}
use Rattle.std.specs.declared.vec.Vec.{Vec}

-- what is held at a place, if there is one
abbrev pub held : {X : Type 0} → Option (Option X) → Option X
held None = None
held (Some seat) = seat

abbrev pub lists_of : {X : Type 0} → List (Vec (Option X) Global) → List (List (Option X))
lists_of rows = map (λ row. row.items) rows

abbrev pub seat_in : {X : Type 0} → List (List (Option X)) → ℕ → ℕ → Option X
seat_in rows number place = held (slice_get (unwrap_or (slice_get rows number) []) place)

abbrev pub seat_at : {X : Type 0} → List (Vec (Option X) Global) → ℕ → ℕ → Option X
seat_at rows number place = seat_in (lists_of rows) number place

-- what is held was held before
pub record HoldsNoMore {X : Type 0} (old new : List (Vec (Option X) Global)) : Type 0 where
  pub each : (number place : ℕ) (seat : X) → seat_at new number place ≡ Some seat → seat_at old number place ≡ Some seat
