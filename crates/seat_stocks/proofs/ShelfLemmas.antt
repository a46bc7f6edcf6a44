-- Lanes of which some are taken.
use Rattle.std.proofs.Common.{◌≡◌, ℕ, zero, suc, List, [], ◌∷◌, ◌++◌, All, Option, map, Some, ap, sym, subst, ◌∙◌}
use Rattle.std.specs.Prelude.{slice_get, slice_set, unwrap_or}
use Rattle.std.proofs.lemmas.List.Elements.{All-get_or}
use Rattle.std.proofs.lemmas.Option.{get_or_from_slice_get, slice_get_within}
use Rattle.seat_stocks.specs.Shelves.{IsLeft}

module _ {X : Type 0} where
  pub all_at : (P : X → Type 0) (list : List X) (place : ℕ) (x : X) → All P list → slice_get list place ≡ Some x → P x
  all_at P list place x all there = subst P (get_or_from_slice_get list place x x there) (All-get_or P list place x (slice_get_within list place x there) all)

  -- what is among the first ones of a list
  first_ones : (list behind : List X) (place : ℕ) (x : X) → slice_get list place ≡ Some x → slice_get (list ++ behind) place ≡ Some x
  first_ones [] behind place x there = absurd cc
  first_ones (y ∷ list) behind zero x there = there
  first_ones (y ∷ list) behind (suc place) x there = first_ones list behind place x there

  -- of one lane the last ones were taken
  pub left_of : {Y : Type 0} (view : Y → List X) (lanes : List Y) (at : ℕ) (old new : Y) (behind : List X) → slice_get lanes at ≡ Some old → view old ≡ view new ++ behind
      → IsLeft (map view lanes) (map view (slice_set lanes at new))
  left_of view [] at old new behind there taken lane x on = absurd cc
  left_of view (y ∷ lanes) zero old new behind there taken zero x on =
      let same : y ≡ old = ap (λ (o : Option _). unwrap_or o y) there in
      record {
        place = on.place;
        there = subst (λ (ys : List X). slice_get ys on.place ≡ Some x) (sym (ap view same ∙ taken)) (first_ones (view new) behind on.place x on.there);
      }
  left_of view (y ∷ lanes) zero old new behind there taken (suc lane) x on = record { place = on.place; there = on.there }
  left_of view (y ∷ lanes) (suc at) old new behind there taken zero x on = record { place = on.place; there = on.there }
  left_of view (y ∷ lanes) (suc at) old new behind there taken (suc lane) x on =
      let below = left_of view lanes at old new behind there taken lane x (record { place = on.place; there = on.there }) in
      record { place = below.place; there = below.there }
