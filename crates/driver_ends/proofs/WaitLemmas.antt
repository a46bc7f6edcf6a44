-- What outlets that went on one after the other leave.
use Rattle.std.proofs.Common.{◌≡◌, ℕ, zero, suc, ◌+◌, ◌<◌, ◌≤◌, ◌⊎◌, inl, inr, List, [], ◌∷◌, Bool, true, false, Option, Some, None, length, get_or, set, take, drop, refl, sym, ap, ◌∙◌, subst, arith, add-zero}
use Rattle.std.specs.Prelude.{All, MatchOption, nat_lt}
use Rattle.std.proofs.lemmas.Bool.{ltb-true, ltb-false}
use Rattle.std.proofs.lemmas.List.{get_or-drop, get_or-set_other, take-set, take-set-le, take_all, take_more_set}
use Rattle.std.proofs.lemmas.List.Elements.{All-push}
use Rattle.std.proofs.lemmas.List.Sums.{get_or-le-sum_by, sum_by-set}
use Rattle.count_laws.specs.Counts.{Rose}
use Rattle.blocked.specs.declared.blocked_on.BlockedOn.{BlockedOn}
use Rattle.driver_ends.specs.Outlets.{IsStuck, IsThrough, OutletState}
use Rattle.driver_ends.specs.Targets.{HasStuckOutlet, earlier, fulls_of}

-- an item of a list, whatever stands past its end
get_or_any : {X : Type 0} (xs : List X) (i : ℕ) (d e : X) → i < length xs → get_or xs i d ≡ get_or xs i e
get_or_any [] i d e less = absurd (omega arith)
get_or_any (x ∷ xs) zero d e less = refl
get_or_any (x ∷ xs) (suc i) d e less = get_or_any xs i d e (omega arith)

get_or_set : {X : Type 0} (xs : List X) (i : ℕ) (y d : X) → i < length xs → get_or (set xs i y) i d ≡ y
get_or_set [] i y d less = absurd (omega arith)
get_or_set (x ∷ xs) zero y d less = refl
get_or_set (x ∷ xs) (suc i) y d less = get_or_set xs i y d (omega arith)

length_set : {X : Type 0} (xs : List X) (i : ℕ) (y : X) → length (set xs i y) ≡ length xs
length_set [] i y = refl
length_set (x ∷ xs) zero y = refl
length_set (x ∷ xs) (suc i) y = ap suc (length_set xs i y)

-- where the rest of two lists is the same, so is its first item
first_left : {X : Type 0} (xs ys : List X) (i : ℕ) (d : X) → drop i xs ≡ drop i ys → get_or xs i d ≡ get_or ys i d
first_left xs ys i d rest =
    ap (λ k. get_or xs k d) (sym (add-zero i)) ∙ sym (get_or-drop i xs 0 d) ∙ ap (λ l. get_or l 0 d) rest ∙ get_or-drop i ys 0 d ∙ ap (λ k. get_or ys k d) (add-zero i)

-- the outlets before a place went on
abbrev pub TriedTo : Bool → ℕ → List OutletState → List OutletState → Type 0
TriedTo told place old now = (k : ℕ) (d : OutletState) → k < place
    → IsThrough told (get_or now k d) ⊎ ((on : BlockedOn) × IsStuck told (get_or old k d) (get_or now k d) on)

-- one of the outlets before a place is stuck, and it is the first
pub record StuckBefore (told : Bool) (place : ℕ) (old now : List OutletState) (shown : ℕ → ℕ → Type 0) (on : BlockedOn) : Type 0 where
  pub stuck : HasStuckOutlet told old now on
  pub before : stuck.place < place
  pub seen : shown on.bell on.seen

abbrev pub WaitsSo : Bool → ℕ → List OutletState → List OutletState → (ℕ → ℕ → Type 0) → Option BlockedOn → Type 0
WaitsSo told place old now shown waits = MatchOption waits (All (IsThrough told) (take place now)) (λ on. StuckBefore told place old now shown on)

-- how one outlet went on
abbrev pub WentOn : Bool → OutletState → OutletState → (ℕ → ℕ → Type 0) → Option BlockedOn → Type 0
WentOn told before after shown waits = MatchOption waits (IsThrough told after) (λ on. IsStuck told before after on × shown on.bell on.seen)

pub tried_more : (told : Bool) (place : ℕ) (old now : List OutletState) (new d : OutletState) (shown : ℕ → ℕ → Type 0) (on : Option BlockedOn) → place < length now
    → drop place now ≡ drop place old → WentOn told (get_or now place d) new shown on → TriedTo told place old now → TriedTo told (place + 1) old (set now place new)
tried_more told place old now new d shown on within rest went tried k e less =
    let go : (b : Bool) → nat_lt k place ≡ b
    → IsThrough told (get_or (set now place new) k e) ⊎ ((on : BlockedOn) × IsStuck told (get_or old k e) (get_or (set now place new) k e) on) =
    elim [ true ↦ λ t. before (ltb-true k place t) | false ↦ λ f. here (ltb-false k place f) ] in
    go (nat_lt k place) refl
  where
    same : (d e : OutletState) → get_or now place d ≡ get_or old place e
    same d e = get_or_any now place d e within ∙ first_left now old place e rest

    before : k < place → IsThrough told (get_or (set now place new) k e) ⊎ ((on : BlockedOn) × IsStuck told (get_or old k e) (get_or (set now place new) k e) on)
    before less = subst (λ (x : OutletState). IsThrough told x ⊎ ((on : BlockedOn) × IsStuck told (get_or old k e) x on))
        (sym (get_or-set_other now place k new e (λ at. absurd (omega (arith, less, at))))) (tried k e less)

    one : (on : Option BlockedOn) → WentOn told (get_or now place d) new shown on → IsThrough told new ⊎ ((on : BlockedOn) × IsStuck told (get_or now place d) new on)
    one None through = inl through
    one (Some on) stuck = inr (on, stuck.0)

    here : place ≤ k → IsThrough told (get_or (set now place new) k e) ⊎ ((on : BlockedOn) × IsStuck told (get_or old k e) (get_or (set now place new) k e) on)
    here most =
        let at : place ≡ k = omega (arith, less, most) in
        subst (λ (k : ℕ). IsThrough told (get_or (set now place new) k e) ⊎ ((on : BlockedOn) × IsStuck told (get_or old k e) (get_or (set now place new) k e) on)) at
        (subst (λ (x : OutletState). IsThrough told x ⊎ ((on : BlockedOn) × IsStuck told (get_or old place e) x on)) (sym (get_or_set now place new e within))
        (subst (λ (x : OutletState). IsThrough told new ⊎ ((on : BlockedOn) × IsStuck told x new on)) (same d e) (one on went)))

-- fulls that rose stay so where one outlet's did not fall
rose_more : (old : ℕ) (now : List OutletState) (place : ℕ) (new d : OutletState) → place < length now → Rose old (fulls_of now) → (get_or now place d).seat.fulls ≤ new.seat.fulls
    → Rose old (fulls_of (set now place new))
rose_more old now place new d within rose more =
    omega (arith, sum_by-set (λ (l : OutletState). l.seat.fulls) now place new d within, get_or-le-sum_by (λ (l : OutletState). l.seat.fulls) now place d within, rose, more)

rose_one : (old : ℕ) (now : List OutletState) (place : ℕ) (new d : OutletState) → place < length now → old ≤ fulls_of now → Rose (get_or now place d).seat.fulls new.seat.fulls
    → Rose old (fulls_of (set now place new))
rose_one old now place new d within before rose =
    omega (arith, sum_by-set (λ (l : OutletState). l.seat.fulls) now place new d within, get_or-le-sum_by (λ (l : OutletState). l.seat.fulls) now place d within, before, rose)

-- the first that is stuck is so whatever those behind it do
stuck_more : (told : Bool) (place : ℕ) (old now : List OutletState) (new d : OutletState) (shown later : ℕ → ℕ → Type 0) (on : BlockedOn) → place < length now
    → (get_or now place d).seat.fulls ≤ new.seat.fulls → ((bell count : ℕ) → shown bell count → later bell count) → StuckBefore told place old now shown on
    → StuckBefore told (place + 1) old (set now place new) later on
stuck_more told place old now new d shown later on within more shows s = record {
  stuck = record {
    place = s.stuck.place;
    before = s.stuck.before;
    after = s.stuck.after;
    there = omega (arith, s.stuck.there, length_set now place new);
    was = s.stuck.was;
    is = s.stuck.is ∙ sym (get_or-set_other now place s.stuck.place new s.stuck.after (λ at. absurd (omega (arith, at, s.before))));
    first = subst (All (IsThrough told)) (sym (take-set-le s.stuck.place now place new (omega (arith, s.before)))) s.stuck.first;
    stuck = s.stuck.stuck;
    full = rose_more (fulls_of old) now place new d within s.stuck.full more;
  };
  before = omega (arith, s.before);
  seen = shows on.bell on.seen s.seen;
}

stuck_here : (told : Bool) (place : ℕ) (old now : List OutletState) (new d : OutletState) (later : ℕ → ℕ → Type 0) (on : BlockedOn) → place < length now → drop place now ≡ drop place old
    → fulls_of old ≤ fulls_of now → All (IsThrough told) (take place now) → IsStuck told (get_or now place d) new on → later on.bell on.seen
    → StuckBefore told (place + 1) old (set now place new) later on
stuck_here told place old now new d later on within rest fulls through stuck seen = record {
  stuck = record {
    place = place;
    before = get_or now place d;
    after = new;
    there = omega (arith, within, length_set now place new);
    was = get_or_any now place d (get_or now place d) within ∙ first_left now old place (get_or now place d) rest;
    is = sym (get_or_set now place new new within);
    first = subst (All (IsThrough told)) (sym (take-set now place new)) through;
    stuck = stuck;
    full = rose_one (fulls_of old) now place new d within fulls stuck.full;
  };
  before = omega arith;
  seen = seen;
}

pub waits_more : (told : Bool) (place : ℕ) (old now : List OutletState) (new d : OutletState) (shown later : ℕ → ℕ → Type 0) (first on : Option BlockedOn) → place < length now
    → drop place now ≡ drop place old → fulls_of old ≤ fulls_of now → (get_or now place d).seat.fulls ≤ new.seat.fulls → ((bell count : ℕ) → shown bell count → later bell count)
    → WentOn told (get_or now place d) new later on → WaitsSo told place old now shown first → WaitsSo told (place + 1) old (set now place new) later (earlier first on)
waits_more told place old now new d shown later (Some first) on within rest fulls more shows went waits = stuck_more told place old now new d shown later first within more shows waits
waits_more told place old now new d shown later None None within rest fulls more shows went waits =
    subst (All (IsThrough told)) (sym (take_more_set now place new within)) (All-push (IsThrough told) (take place now) new waits went)
waits_more told place old now new d shown later None (Some on) within rest fulls more shows went waits =
    stuck_here told place old now new d later on within rest fulls waits went.0 went.1

pub waits_all : (told : Bool) (place : ℕ) (old now : List OutletState) (shown : ℕ → ℕ → Type 0) (waits : Option BlockedOn) → length now ≤ place → WaitsSo told place old now shown waits
    → MatchOption waits (All (IsThrough told) now) (λ on. HasStuckOutlet told old now on × shown on.bell on.seen)
waits_all told place old now shown None over all = subst (All (IsThrough told)) (take_all place now over) all
waits_all told place old now shown (Some on) over s = (s.stuck, s.seen)
