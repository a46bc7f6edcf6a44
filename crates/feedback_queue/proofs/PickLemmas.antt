-- What stands at the place of the least measure.
use Rattle.std.proofs.Common.{◌≡◌, ℕ, ◌+◌, ◌<◌, ◌≤◌, zero, suc, List, [], ◌∷◌, Bool, true, false, Option, Some, None, refl, sym, ap, ◌∙◌, subst, arith, slice_get, length}
use Rattle.std.specs.Prelude.{nat_le, if◌then◌else◌}
use Rattle.std.proofs.lemmas.Bool.{leb-true, leb-false}
use Rattle.std.proofs.lemmas.Option.{none-some, slice_get_within}
use Rattle.feedback_queue.specs.declared.best.Best.{Best}
use Rattle.feedback_queue.specs.declared.level.Entry.{Entry}
use Rattle.feedback_queue.specs.Levels.{LevelState, weight_waited, work_of}
use Rattle.feedback_queue.specs.Queue.{next_in, next_level}
use Rattle.feedback_queue.specs.Picks.{IsFirstOfLeast, best_from, better}

module _ {X : Type 0} (measure : X → Option ℕ) where
  -- the best of the items from a place on, as an item of the list
  pub record Found (place : ℕ) (xs : List X) (best : Best) : Type 0 where
    pub item : X
    pub at : ℕ
    pub is_place : best.place ≡ place + at
    pub there : slice_get xs at ≡ Some item
    pub is_measure : measure item ≡ Some best.measure
    pub least : (i n : ℕ) (x : X) → slice_get xs i ≡ Some x → measure x ≡ Some n → best.measure ≤ n
    pub first : (i n : ℕ) (x : X) → i < at → slice_get xs i ≡ Some x → measure x ≡ Some n → best.measure < n

  same_item : (x y : X) (m : Option ℕ) (n : ℕ) → Some x ≡ Some y → measure x ≡ m → measure y ≡ Some n → m ≡ Some n
  same_item x y m n e a b = cc

  -- none is the best only where none has a measure
  none_over : (place : ℕ) (m : Option ℕ) (later : Option Best) → better place m later ≡ None → (m ≡ None) × (later ≡ None)
  none_over place None later e = (refl, e)
  none_over place (Some n) None e = cc
  none_over place (Some n) (Some b) e = by_test (nat_le n b.measure) e
    where
      by_test : (t : Bool) → (if t then Some (record { place = place; measure = n }) else Some b) ≡ None → (◌≡◌ {A = Option ℕ} (Some n) None) × (◌≡◌ {A = Option Best} (Some b) None)
      by_test true e = cc
      by_test false e = cc

  pub none_measured : (place : ℕ) (xs : List X) → best_from measure place xs ≡ None → (i n : ℕ) (x : X) → slice_get xs i ≡ Some x → measure x ≡ Some n → ⊥
  none_measured place [] e zero n x there is = none-some x there
  none_measured place [] e (suc i) n x there is = none-some x there
  none_measured place (y ∷ ys) e zero n x there is =
      none-some n (sym (none_over place (measure y) (best_from measure (place + 1) ys) e).0 ∙ same_item y x (measure y) n there refl is)
  none_measured place (y ∷ ys) e (suc i) n x there is =
      none_measured (place + 1) ys (none_over place (measure y) (best_from measure (place + 1) ys) e).1 i n x there is

  here : (place n : ℕ) (x : X) (xs : List X) → measure x ≡ Some n
      → ((i m : ℕ) (y : X) → slice_get xs i ≡ Some y → measure y ≡ Some m → n ≤ m)
      → Found place (x ∷ xs) (record { place = place; measure = n })
  here place n x xs is behind = record {
    item = x;
    at = 0;
    is_place = omega arith;
    there = refl;
    is_measure = is;
    least = least;
    first = λ i m y less there is'. absurd (omega (arith, less));
  }
    where
      least : (i m : ℕ) (y : X) → slice_get (x ∷ xs) i ≡ Some y → measure y ≡ Some m → n ≤ m
      least zero m y there is' = let same : n ≡ m = cc in omega (arith, same)
      least (suc i) m y there is' = behind i m y there is'

  behind : (place : ℕ) (x : X) (xs : List X) (best : Best) → Found (place + 1) xs best
      → ((n : ℕ) → measure x ≡ Some n → best.measure < n) → Found place (x ∷ xs) best
  behind place x xs best f more = record {
    item = f.item;
    at = suc f.at;
    is_place = omega (arith, f.is_place);
    there = f.there;
    is_measure = f.is_measure;
    least = least;
    first = first;
  }
    where
      least : (i m : ℕ) (y : X) → slice_get (x ∷ xs) i ≡ Some y → measure y ≡ Some m → best.measure ≤ m
      least zero m y there is = let here : measure x ≡ Some m = cc in omega (arith, more m here)
      least (suc i) m y there is = f.least i m y there is

      first : (i m : ℕ) (y : X) → i < suc f.at → slice_get (x ∷ xs) i ≡ Some y → measure y ≡ Some m → best.measure < m
      first zero m y less there is = let here : measure x ≡ Some m = cc in more m here
      first (suc i) m y less there is = f.first i m y (omega (arith, less)) there is

  some_best : (a b : Best) → Some a ≡ Some b → a ≡ b
  some_best a b e = cc

  some_number : (m : Option ℕ) (n k : ℕ) → m ≡ Some n → m ≡ Some k → n ≡ k
  some_number m n k e f = cc

  -- the item, or the best of those behind it
  one_of : (place n : ℕ) (x : X) (xs : List X) (b best : Best) → measure x ≡ Some n → Found (place + 1) xs b → (t : Bool) → nat_le n b.measure ≡ t
      → (if t then Some (record { place = place; measure = n }) else Some b) ≡ Some best → Found place (x ∷ xs) best
  one_of place n x xs b best is f true le e =
      subst (Found place (x ∷ xs)) (some_best (record { place = place; measure = n }) best e)
      (here place n x xs is (λ i m y there is'. omega (arith, leb-true n b.measure le, f.least i m y there is')))
  one_of place n x xs b best is f false gt e =
      subst (Found place (x ∷ xs)) (some_best b best e)
      (behind place x xs b f (λ k is'. omega (arith, leb-false n b.measure gt, some_number (measure x) n k is is')))

  found_in : (place : ℕ) (x : X) (xs : List X) (best : Best) → ((b : Best) → best_from measure (place + 1) xs ≡ Some b → Found (place + 1) xs b)
      → (m : Option ℕ) → measure x ≡ m → (later : Option Best) → best_from measure (place + 1) xs ≡ later → better place m later ≡ Some best
      → Found place (x ∷ xs) best
  found_in place x xs best rest None is later after e =
      behind place x xs best (rest best (after ∙ e)) (λ n is'. absurd (none-some n (sym is ∙ is')))
  found_in place x xs best rest (Some n) is None after e =
      subst (Found place (x ∷ xs)) (some_best (record { place = place; measure = n }) best e)
      (here place n x xs is (λ i m y there is'. absurd (none_measured (place + 1) xs after i m y there is')))
  found_in place x xs best rest (Some n) is (Some b) after e =
      one_of place n x xs b best is (rest b after) (nat_le n b.measure) refl e

  pub found : (place : ℕ) (xs : List X) (best : Best) → best_from measure place xs ≡ Some best → Found place xs best
  found place [] best e = absurd (none-some best e)
  found place (x ∷ xs) best e =
      found_in place x xs best (found (place + 1) xs) (measure x) refl (best_from measure (place + 1) xs) refl e

  -- the best of a list is the first of the least measure
  pub best_is_first : (xs : List X) (best : Best) → best_from measure 0 xs ≡ Some best → IsFirstOfLeast measure xs best
  best_is_first xs best e =
      let f = found 0 xs best e in
      let same : f.at ≡ best.place = omega (arith, f.is_place) in
      record {
        there = (f.item, ap (slice_get xs) (sym same) ∙ f.there, f.is_measure);
        least = f.least;
        first = λ i n x less there is. f.first i n x (omega (arith, same, less)) there is;
      }

some_work : (place n : ℕ) (later : Option Best) → better place (Some n) later ≡ None → ⊥
some_work place n None e = none-some (record { place = place; measure = n }) (sym e)
some_work place n (Some b) e = by_test (nat_le n b.measure) e
  where
    by_test : (t : Bool) → (if t then Some (record { place = place; measure = n }) else Some b) ≡ None → ⊥
    by_test true e = none-some (record { place = place; measure = n }) (sym e)
    by_test false e = none-some b (sym e)

-- where somebody waits, somebody comes next
pub some_is_next : {W : Type 0} (entries : List (Entry W)) → next_in entries ≡ None → entries ≡ []
some_is_next [] e = refl
some_is_next (entry ∷ entries) e = absurd (some_work 0 entry.work (best_from work_of 1 entries) e)

pub next_within : {W : Type 0} (entries : List (Entry W)) (best : Best) → next_in entries ≡ Some best → best.place < length entries
next_within entries best e =
    let f = best_is_first work_of entries best e in
    slice_get_within entries best.place f.there.0 f.there.1

pub next_level_within : {W : Type 0} (levels : List (LevelState W)) (best : Best) → next_level levels ≡ Some best → best.place < length levels
next_level_within levels best e =
    let f = best_is_first weight_waited levels best e in
    slice_get_within levels best.place f.there.0 f.there.1
