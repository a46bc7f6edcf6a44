-- A list with one item changed, and levels of which one was offered to or gave a turn.
use Rattle.std.proofs.Common.{◌≡◌, ℕ, zero, suc, List, [], ◌∷◌, Option, Some, None, map, refl, sym, ap, ◌∙◌, subst, slice_get, slice_set}
use Rattle.std.specs.Prelude.{flat_map, unwrap_or, option_map, option_and_then, MatchOption, OnOk, IfErr, Result, Ok, Err}
use Rattle.std.proofs.lemmas.Option.{none-some}
use Rattle.feedback_queue.specs.declared.best.Best.{Best}
use Rattle.feedback_queue.specs.declared.level.Entry.{Entry}
use Rattle.feedback_queue.specs.Levels.{LevelState, weight_if, weight_waited}
use Rattle.feedback_queue.specs.Queue.{FeedbackState, IsNext, IsTaken, TakenAt, TakenFrom, changed_at, gave_turn, all_waiting, next_in, next_level, offered_to, waiting_at, with_entry, caught_up}
use Rattle.feedback_queue.proofs.PickLemmas.{best_is_first, none_measured}

pub on_ok : {A E : Type 0} {P Q : Type 0} (r : Result A E) → (P → Q) → OnOk r P → OnOk r Q
on_ok (Ok x) f p = f p
on_ok (Err e) f p = p

pub on_err : {A E : Type 0} {P Q : E → Type 0} (r : Result A E) → ((e : E) → P e → Q e) → IfErr r P → IfErr r Q
on_err (Ok x) f p = p
on_err (Err e) f p = f e p

module _ {X : Type 0} where
  pub set_changes : (f : X → X) (xs : List X) (place : ℕ) (x new : X) → slice_get xs place ≡ Some x → new ≡ f x → slice_set xs place new ≡ changed_at place f xs
  set_changes f [] place x new there is = refl
  set_changes f (y ∷ ys) zero x new there is = let same : y ≡ x = cc in cc
  set_changes f (y ∷ ys) (suc place) x new there is = ap (λ zs. y ∷ zs) (set_changes f ys place x new there is)

  pub set_same : (xs : List X) (place : ℕ) (x new : X) → slice_get xs place ≡ Some x → new ≡ x → slice_set xs place new ≡ xs
  set_same [] place x new there is = refl
  set_same (y ∷ ys) zero x new there is = let same : y ≡ x = cc in cc
  set_same (y ∷ ys) (suc place) x new there is = ap (λ zs. y ∷ zs) (set_same ys place x new there is)

  pub map-set_same : {Y : Type 0} (g : X → Y) (xs : List X) (place : ℕ) (x new : X) → slice_get xs place ≡ Some x → g new ≡ g x → map g (slice_set xs place new) ≡ map g xs
  map-set_same g [] place x new there is = refl
  map-set_same g (y ∷ ys) zero x new there is = let same : y ≡ x = cc in cc
  map-set_same g (y ∷ ys) (suc place) x new there is = ap (λ zs. g y ∷ zs) (map-set_same g ys place x new there is)

module _ {W : Type 0} where
  -- an offer leaves the level's number
  number_caught_up : (best : Option Best) (level : LevelState W) → (caught_up best level).number ≡ level.number
  number_caught_up None level = refl
  number_caught_up (Some b) level = refl

  number_with : (best : Option Best) (entry : Entry W) (level : LevelState W) (entries : List (Entry W)) → (with_entry best entry level entries).number ≡ level.number
  number_with best entry level [] = number_caught_up best level
  number_with best entry level (first ∷ entries) = refl

  pub number_offered : (best : Option Best) (entry : Entry W) (level : LevelState W) → (offered_to best entry level).number ≡ level.number
  number_offered best entry level = number_with best entry level level.waiting

  pub number_after : {F : Type 0} (P : F → Type 0) (r : Result Unit F) (best : Option Best) (entry : Entry W) (old new : LevelState W)
      → OnOk r (new ≡ offered_to best entry old) → IfErr r (λ failed. P failed × (new ≡ old)) → new.number ≡ old.number
  number_after P (Ok x) best entry old new ok err = ap (λ l. l.number) ok ∙ number_offered best entry old
  number_after P (Err failed) best entry old new ok err = ap (λ l. l.number) err.1

  pub number_taken : (o : Option (ℕ × W)) (old new : LevelState W) → MatchOption o ((old.waiting ≡ []) × (new ≡ old)) (λ taken. TakenFrom old taken new) → new.number ≡ old.number
  number_taken None old new m = ap (λ l. l.number) m.1
  number_taken (Some taken) old new m = ap (λ l. l.number) m.is_given

  pub waiting_there : (levels : List (LevelState W)) (place : ℕ) (level : LevelState W) → slice_get levels place ≡ Some level → waiting_at levels place ≡ level.waiting
  waiting_there levels place level there = ap (λ (found : Option (LevelState W)). unwrap_or (option_map (λ l. l.waiting) found) []) there

  pub taken_at : (levels : List (LevelState W)) (place : ℕ) (level new : LevelState W) (taken : ℕ × W) → slice_get levels place ≡ Some level
      → TakenFrom level taken new → TakenAt place levels taken (slice_set levels place new)
  taken_at levels place level new taken there t =
      let same = sym (waiting_there levels place level there) in
      record {
        place = t.place;
        is_next = subst (λ entries. IsNext entries t.place) same t.is_next;
        there = subst (λ entries. slice_get entries t.place ≡ Some (record { work = taken.0; waiter = taken.1 })) same t.there;
        is_given = set_changes (gave_turn t.place) levels place level new there t.is_given;
      }

  pub took_at : (o : Option (ℕ × W)) (levels : List (LevelState W)) (place : ℕ) (level new : LevelState W) → slice_get levels place ≡ Some level
      → MatchOption o ((level.waiting ≡ []) × (new ≡ level)) (λ taken. TakenFrom level taken new)
      → MatchOption o ((waiting_at levels place ≡ []) × (slice_set levels place new ≡ levels)) (λ taken. TakenAt place levels taken (slice_set levels place new))
  took_at None levels place level new there m = (waiting_there levels place level there ∙ m.0, set_same levels place level new there m.1)
  took_at (Some taken) levels place level new there m = taken_at levels place level new taken there m

  -- where no level comes next, nobody waits
  no_weight : (level : LevelState W) (entries : List (Entry W)) (n : ℕ) → weight_if entries n ≡ None → entries ≡ []
  no_weight level [] n e = refl
  no_weight level (entry ∷ entries) n e = absurd (none-some n (sym e))

  pub nobody_waits : (place : ℕ) (levels : List (LevelState W)) → ((i : ℕ) (level : LevelState W) → slice_get levels i ≡ Some level → level.waiting ≡ []) → flat_map (λ level. level.waiting) levels ≡ []
  nobody_waits place [] all = refl
  nobody_waits place (level ∷ levels) all = cc (all 0 level refl, nobody_waits place levels (λ i l there. all (suc i) l there))

  unweighed : (level : LevelState W) (m : Option ℕ) → weight_waited level ≡ m → ((n : ℕ) → weight_waited level ≡ Some n → ⊥) → level.waiting ≡ []
  unweighed level None e none = no_weight level level.waiting _ e
  unweighed level (Some n) e none = absurd (none n e)

  pub none_held : (queue : FeedbackState W) → next_level queue.levels ≡ None → all_waiting queue ≡ []
  none_held queue e = nobody_waits 0 queue.levels (λ i level there. unweighed level (weight_waited level) refl (λ n is. none_measured weight_waited 0 queue.levels e i n level there is))

  some_waits : (level : LevelState W) (entries : List (Entry W)) (n m : ℕ) → weight_if entries n ≡ Some m → entries ≡ [] → ⊥
  some_waits level entries n m e none = none-some m (ap (λ es. weight_if es n) (sym none) ∙ e)

  -- in the level that comes next somebody waits
  pub next_waits : (levels : List (LevelState W)) (best : Best) → next_level levels ≡ Some best → waiting_at levels best.place ≡ [] → ⊥
  next_waits levels best e none =
      let f = best_is_first weight_waited levels best e in
      some_waits f.there.0 f.there.0.waiting _ best.measure f.there.2 (sym (waiting_there levels best.place f.there.0 f.there.1) ∙ none)

  pub picked : (old new : FeedbackState W) (best : Best) (taken : ℕ × W) → next_level old.levels ≡ Some best → TakenAt best.place old.levels taken new.levels → IsTaken old taken new
  picked old new best taken e t = record {
    pick = record { level = best.place; place = t.place };
    is_pick = ap (option_and_then (λ (level : Best). option_map (λ (b : Best). record { level = level.place; place = b.place }) (next_in (waiting_at old.levels level.place)))) e
        ∙ ap (option_map (λ (b : Best). record { level = best.place; place = b.place })) t.is_next.is_best
        ∙ ap (λ (p : ℕ). Some (record { level = best.place; place = p })) t.is_next.is_place;
    there = t.there;
    is_given = t.is_given;
  }

  pub taken_by : (o : Option (ℕ × W)) (old new : FeedbackState W) (best : Best) → next_level old.levels ≡ Some best
      → MatchOption o ((waiting_at old.levels best.place ≡ []) × (new.levels ≡ old.levels)) (λ taken. TakenAt best.place old.levels taken new.levels)
      → MatchOption o ((all_waiting old ≡ []) × (new ≡ old)) (λ taken. IsTaken old taken new)
  taken_by None old new best e m = absurd (next_waits old.levels best e m.0)
  taken_by (Some taken) old new best e m = picked old new best taken e m
