-- Rows of seats, of which one was taken, or to which one was added.
use Rattle.std.proofs.Common.{◌≡◌, ◌<◌, ℕ, zero, suc, List, [], ◌∷◌, Option, Some, arith, get_or, length, set, subst}
use Rattle.std.specs.Prelude.{slice_get}
use Rattle.std.specs.declared.alloc.Global.{Global}
use Rattle.std.specs.declared.vec.Vec.{Vec}
use Rattle.net_closing.specs.Held.{HoldsNoMore, held, seat_at}

-- a row holds no more than another one
pub record RowHoldsNoMore {X : Type 0} (old new : List (Option X)) : Type 0 where
  pub each : (place : ℕ) (seat : X) → held (slice_get new place) ≡ Some seat → held (slice_get old place) ≡ Some seat

seat_after_set : {X : Type 0} (rows : List (Vec (Option X) Global)) (n : ℕ) (row new : Vec (Option X) Global) → n < length rows → row ≡ get_or rows n row → RowHoldsNoMore row.items new.items
    → (k place : ℕ) (seat : X) → seat_at (set rows n new) k place ≡ Some seat → seat_at rows k place ≡ Some seat
seat_after_set [] n row new lt at fewer k place seat is = absurd (omega (arith, lt))
seat_after_set (r ∷ rows) zero row new lt at fewer zero place seat is = subst (λ (v : Vec _ Global). held (slice_get v.items place) ≡ Some seat) at (fewer.each place seat is)
seat_after_set (r ∷ rows) zero row new lt at fewer (suc k) place seat is = is
seat_after_set (r ∷ rows) (suc n) row new lt at fewer zero place seat is = is
seat_after_set (r ∷ rows) (suc n) row new lt at fewer (suc k) place seat is = seat_after_set rows n row new (omega (arith, lt)) at fewer k place seat is

-- where a row holds no more than it did, all of them hold no more
pub fewer_after_set : {X : Type 0} (rows : List (Vec (Option X) Global)) (n : ℕ) (row new : Vec (Option X) Global) → n < length rows → row ≡ get_or rows n row → RowHoldsNoMore row.items new.items
    → HoldsNoMore rows (set rows n new)
fewer_after_set rows n row new lt at fewer = record { each = seat_after_set rows n row new lt at fewer }

pub fewer_than_fewer : {X : Type 0} (a b c : List (Vec (Option X) Global)) → HoldsNoMore a b → HoldsNoMore b c → HoldsNoMore a c
fewer_than_fewer a b c f g = record { each = λ number place seat is. f.each number place seat (g.each number place seat is) }
