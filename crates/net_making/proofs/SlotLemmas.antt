-- Slots that are filled one by one.
use Rattle.std.proofs.Common.{◌≡◌, ℕ, zero, suc, ◌<◌, ◌⊎◌, inl, inr, List, [], ◌∷◌, All, Option, get_or, map, Some, None, refl, ap, sym, subst, ◌∙◌, arith}
use Rattle.std.specs.Prelude.{replicate, slice_get, slice_set}
use Rattle.std.proofs.lemmas.Bool.{cases_order}
use Rattle.std.proofs.lemmas.List.{length-set}
use Rattle.std.proofs.lemmas.Option.{slice_get-get_or}
use Rattle.net_parts.specs.Drivers.{DriverState}
use Rattle.net_parts.specs.Pipes.{PipeForm, driver_number}
use Rattle.net_parts.specs.Nets.{HasDriver, NetForm}
use Rattle.net_parts.proofs.AnswerLemmas.{some_same}
use Rattle.net_making.specs.Slots.{AreNew, HasSlot, HaveGrown, IsNew}

module _ {X : Type 0} where
  pub set_there : (xs : List X) (n : ℕ) (x old : X) → slice_get xs n ≡ Some old → slice_get (slice_set xs n x) n ≡ Some x
  set_there [] n x old there = absurd cc
  set_there (y ∷ xs) zero x old there = refl
  set_there (y ∷ xs) (suc n) x old there = set_there xs n x old there

  pub set_apart : (xs : List X) (n k : ℕ) (x : X) → (k ≡ n → ⊥) → slice_get (slice_set xs n x) k ≡ slice_get xs k
  set_apart [] n k x apart = refl
  set_apart (y ∷ xs) zero zero x apart = absurd (apart refl)
  set_apart (y ∷ xs) zero (suc k) x apart = refl
  set_apart (y ∷ xs) (suc n) zero x apart = refl
  set_apart (y ∷ xs) (suc n) (suc k) x apart = set_apart xs n k x (λ same. apart (ap suc same))

  pub all_from : (P : X → Type 0) (xs : List X) → ((n : ℕ) (x : X) → slice_get xs n ≡ Some x → P x) → All P xs
  all_from P xs each = λ k d less. each k (get_or xs k d) (slice_get-get_or xs k d less)

  pub some_back : (xs : List X) (n : ℕ) (x : X) → slice_get (map Some xs) n ≡ Some (Some x) → slice_get xs n ≡ Some x
  some_back [] n x there = absurd cc
  some_back (y ∷ xs) zero x there = some_same (Some y) (Some x) there
  some_back (y ∷ xs) (suc n) x there = some_back xs n x there

  pub some_at : (xs : List X) (n : ℕ) (x : X) → slice_get xs n ≡ Some x → slice_get (map Some xs) n ≡ Some (Some x)
  some_at [] n x there = absurd cc
  some_at (y ∷ xs) zero x there = ap Some there
  some_at (y ∷ xs) (suc n) x there = some_at xs n x there

  pub none_filled : (count n : ℕ) (x : X) → slice_get (replicate count None) n ≡ Some (Some x) → ⊥
  none_filled zero n x there = cc
  none_filled (suc count) zero x there = clash there
    where
      clash : Some None ≡ Some (Some x) → ⊥
      clash same = cc
  none_filled (suc count) (suc n) x there = none_filled count n x there

empty_is_full : (d : DriverState) (slots : List (Option DriverState)) (n : ℕ) → slice_get slots n ≡ Some None → slice_get slots n ≡ Some (Some d) → ⊥
empty_is_full d slots n empty full = clash (sym empty ∙ full)
  where
    clash : Some None ≡ Some (Some d) → ⊥
    clash same = cc

pub grown_self : (slots : List (Option DriverState)) → HaveGrown slots slots
grown_self slots = record { kept = λ number d there. there; count = refl; fresh = λ before. before }

pub grown_then : (a b c : List (Option DriverState)) → HaveGrown a b → HaveGrown b c → HaveGrown a c
grown_then a b c first then = record {
  kept = λ number d there. then.kept number d (first.kept number d there);
  count = then.count ∙ first.count;
  fresh = λ before. then.fresh (first.fresh before);
}

pub grown_put : (slots : List (Option DriverState)) (n : ℕ) (d : DriverState) → slice_get slots n ≡ Some None → IsNew d → HaveGrown slots (slice_set slots n (Some d))
grown_put slots n d empty fresh = record {
  kept = λ number e there. set_apart slots n number (Some d) (λ same. empty_is_full e slots n empty (ap (slice_get slots) (sym same) ∙ there)) ∙ there;
  count = length-set slots n (Some d);
  fresh = λ before number e there. by before number e there (cases_order number n);
}
  where
    by : AreNew slots → (number : ℕ) (e : DriverState) → slice_get (slice_set slots n (Some d)) number ≡ Some (Some e) → (number ≡ n) ⊎ ((number < n) ⊎ (n < number)) → IsNew e
    by before number e there (inl same) =
        subst IsNew (some_same d e (some_same (Some d) (Some e) (sym (set_there slots n (Some d) None empty) ∙ ap (slice_get (slice_set slots n (Some d))) (sym same) ∙ there))) fresh
    by before number e there (inr (inl less)) = before number e (sym (set_apart slots n number (Some d) (λ same. omega (arith, less, same))) ∙ there)
    by before number e there (inr (inr more)) = before number e (sym (set_apart slots n number (Some d) (λ same. omega (arith, more, same))) ∙ there)

pub slot_kept : (net : NetForm) (old new : List (Option DriverState)) (at : ℕ) (pipe : PipeForm) (task lane : ℕ) → HaveGrown old new → HasSlot net old at pipe task lane → HasSlot net new at pipe task lane
slot_kept net old new at pipe task lane grown slot = record { driver = slot.driver; there = grown.kept (driver_number pipe task lane) slot.driver slot.there; is = slot.is }

pub slot_driver : (net : NetForm) (drivers : List DriverState) (slots : List (Option DriverState)) (at : ℕ) (pipe : PipeForm) (task lane : ℕ) → slots ≡ map Some drivers
    → HasSlot net slots at pipe task lane → HasDriver net drivers at pipe task lane
slot_driver net drivers slots at pipe task lane are slot = record {
  driver = slot.driver;
  there = some_back drivers (driver_number pipe task lane) slot.driver (ap (λ ss. slice_get ss (driver_number pipe task lane)) (sym are) ∙ slot.there);
  is = slot.is;
}
