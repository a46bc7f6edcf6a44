-- An offer and a take leave the weights of the levels as near as they were, or within 16.
use Rattle.std.proofs.Common.{◌≡◌, ◌⊎◌, inl, inr, ℕ, ◌+◌, ◌*◌, ◌^◌, ◌≤◌, max, zero, suc, List, [], ◌∷◌, Bool, true, false, Option, Some, None, map, refl, sym, ap, ◌∙◌, subst, slice_get, arith}
use Rattle.std.specs.Prelude.{nat_lt, if◌then◌else◌, option_and_then, option_map}
use Rattle.std.proofs.lemmas.Option.{none-some, slice_get-map, slice_get_past}
use Rattle.feedback_queue.specs.declared.best.Best.{Best}
use Rattle.feedback_queue.specs.declared.level.Entry.{Entry}
use Rattle.feedback_queue.specs.Levels.{LevelState, level_of, weight, weight_if, weight_waited, work_of}
use Rattle.feedback_queue.specs.Picks.{IsFirstOfLeast}
use Rattle.feedback_queue.specs.Queue.{FeedbackState, IsFirstOfAll, IsTaken, LevelPlace, changed_at, gave_turn, most_turns, next_in, next_level, pick_of, after_offer, offered_to, turns_for, waiting_at, with_entry}
use Rattle.feedback_queue.specs.Shares.{AllWait, AreLow, WeighsWithin, OneIsEmpty}
use Rattle.feedback_queue.proofs.PickLemmas.{best_is_first}

module _ {X : Type 0} where
  some_item : (x y : X) → Some x ≡ Some y → x ≡ y
  some_item x y e = cc

  -- an item of a list with one changed is that one, or stood there before
  pub record Changed (f : X → X) (xs : List X) (place i : ℕ) (y : X) : Type 0 where
    pub old : X
    pub there : slice_get xs i ≡ Some old
    pub same : i ≡ place
    pub is : y ≡ f old

  pub changed_get : (f : X → X) (xs : List X) (place i : ℕ) (y : X) → slice_get (changed_at place f xs) i ≡ Some y
      → Changed f xs place i y ⊎ (slice_get xs i ≡ Some y)
  changed_get f [] place i y there = inr there
  changed_get f (x ∷ xs) zero zero y there = inl (record { old = x; there = refl; same = refl; is = sym (some_item (f x) y there) })
  changed_get f (x ∷ xs) zero (suc i) y there = inr there
  changed_get f (x ∷ xs) (suc place) zero y there = inr there
  changed_get f (x ∷ xs) (suc place) (suc i) y there = further (changed_get f xs place i y there)
    where
      further : Changed f xs place i y ⊎ (slice_get xs i ≡ Some y) → Changed f (x ∷ xs) (suc place) (suc i) y ⊎ (slice_get xs i ≡ Some y)
      further (inl c) = inl (record { old = c.old; there = c.there; same = ap suc c.same; is = c.is })
      further (inr e) = inr e

-- a turn more weighs at most 16
turn_weighs : (turns number : ℕ) → number ≤ 4 → (turns + 1) * 2 ^ number ≤ turns * 2 ^ number + 16
turn_weighs turns zero few = omega arith
turn_weighs turns (suc zero) few = omega arith
turn_weighs turns (suc (suc zero)) few = omega arith
turn_weighs turns (suc (suc (suc zero))) few = omega arith
turn_weighs turns (suc (suc (suc (suc zero)))) few = omega arith
turn_weighs turns (suc (suc (suc (suc (suc n))))) few = absurd (omega (arith, few))

turn_adds : (turns number : ℕ) → number ≤ 4 → turns * 2 ^ number ≤ (turns + 1) * 2 ^ number
turn_adds turns zero few = omega arith
turn_adds turns (suc zero) few = omega arith
turn_adds turns (suc (suc zero)) few = omega arith
turn_adds turns (suc (suc (suc zero))) few = omega arith
turn_adds turns (suc (suc (suc (suc zero)))) few = omega arith
turn_adds turns (suc (suc (suc (suc (suc n))))) few = absurd (omega (arith, few))

-- a weight between that of before and 16 more
record Grew (old new : ℕ) : Type 0 where
  least : old ≤ new
  most : new ≤ old + 16

with_turn_grew : (t : Bool) (turns number : ℕ) → number ≤ 4 → Grew (turns * 2 ^ number) ((if t then turns + 1 else turns) * 2 ^ number)
with_turn_grew true turns number few = record { least = turn_adds turns number few; most = turn_weighs turns number few }
with_turn_grew false turns number few = record { least = omega arith; most = omega arith }

-- a raised weight
record Raised (old least new : ℕ) : Type 0 where
  above : old ≤ new
  below : new ≤ max old (least + 15)

raised : (turns number least : ℕ) → number ≤ 4 → Raised (turns * 2 ^ number) least (max turns (turns_for least number) * 2 ^ number)
raised turns zero least few = record { above = omega arith; below = omega arith }
raised turns (suc zero) least few = record { above = omega arith; below = omega arith }
raised turns (suc (suc zero)) least few = record { above = omega arith; below = omega arith }
raised turns (suc (suc (suc zero))) least few = record { above = omega arith; below = omega arith }
raised turns (suc (suc (suc (suc zero)))) least few = record { above = omega arith; below = omega arith }
raised turns (suc (suc (suc (suc (suc n))))) least few = absurd (omega (arith, few))

few_numbers : (i n : ℕ) → slice_get (0 ∷ 1 ∷ 2 ∷ 3 ∷ 4 ∷ []) i ≡ Some n → n ≤ 4
few_numbers zero n e = omega (arith, some_item 0 n e)
few_numbers (suc zero) n e = omega (arith, some_item 1 n e)
few_numbers (suc (suc zero)) n e = omega (arith, some_item 2 n e)
few_numbers (suc (suc (suc zero))) n e = omega (arith, some_item 3 n e)
few_numbers (suc (suc (suc (suc zero)))) n e = omega (arith, some_item 4 n e)
few_numbers (suc (suc (suc (suc (suc i))))) n e = absurd (none-some n (sym (slice_get_past (0 ∷ 1 ∷ 2 ∷ 3 ∷ 4 ∷ []) (suc (suc (suc (suc (suc i))))) (omega arith)) ∙ e))

module _ {W : Type 0} where
  waited : (level : LevelState W) (entries : List (Entry W)) → level.waiting ≡ entries → (level.waiting ≡ [] → ⊥) → weight_waited level ≡ Some (weight level)
  waited level [] e some = absurd (some e)
  waited level (entry ∷ entries) e some = ap (λ es. weight_if es (weight level)) e

  -- the level of a pick is the one that comes next, and its place that of who comes next in it
  record Picked (levels : List (LevelState W)) (pick : LevelPlace) : Type 0 where
    best : Best
    is_next : next_level levels ≡ Some best
    is_level : best.place ≡ pick.level
    entry : Best
    is_entry : next_in (waiting_at levels best.place) ≡ Some entry
    is_place : entry.place ≡ pick.place

  picked_in : (levels : List (LevelState W)) (pick : LevelPlace) (best : Best) → next_level levels ≡ Some best → (inner : Option Best) → next_in (waiting_at levels best.place) ≡ inner
      → option_map (λ (b : Best). record { level = best.place; place = b.place }) inner ≡ Some pick → Picked levels pick
  picked_in levels pick best is None within e = absurd (none-some pick e)
  picked_in levels pick best is (Some entry) within e =
      let same = some_item (record { level = best.place; place = entry.place }) pick e in
      record {
        best = best;
        is_next = is;
        is_level = ap (λ (p : LevelPlace). p.level) same;
        entry = entry;
        is_entry = within;
        is_place = ap (λ (p : LevelPlace). p.place) same;
      }

  picked_from : (levels : List (LevelState W)) (pick : LevelPlace) (next : Option Best) → next_level levels ≡ next
      → option_and_then (λ (level : Best). option_map (λ (b : Best). record { level = level.place; place = b.place }) (next_in (waiting_at levels level.place))) next ≡ Some pick
      → Picked levels pick
  picked_from levels pick None is e = absurd (none-some pick e)
  picked_from levels pick (Some best) is e = picked_in levels pick best is (next_in (waiting_at levels best.place)) refl e

  pub pick_is_first : (queue : FeedbackState W) (pick : LevelPlace) → pick_of queue ≡ Some pick → IsFirstOfAll queue pick
  pick_is_first queue pick e =
      let p = picked_from queue.levels pick (next_level queue.levels) refl e in
      record {
        level = p.best;
        is_level = p.is_level;
        lightest = best_is_first weight_waited queue.levels p.best p.is_next;
        entry = p.entry;
        is_place = p.is_place;
        least = subst (λ (n : ℕ). IsFirstOfLeast work_of (waiting_at queue.levels n) p.entry) p.is_level
            (best_is_first work_of (waiting_at queue.levels p.best.place) p.entry p.is_entry);
      }

  same_level : (levels : List (LevelState W)) (i j : ℕ) (k l : LevelState W) → i ≡ j → slice_get levels i ≡ Some k → slice_get levels j ≡ Some l → k ≡ l
  same_level levels i j k l e a b = some_item k l (sym a ∙ ap (slice_get levels) e ∙ b)

  -- the level that comes next weighs least
  lightest : (levels : List (LevelState W)) → AllWait levels → (best : Best) → next_level levels ≡ Some best → (i j : ℕ) (k l : LevelState W)
      → i ≡ best.place → slice_get levels i ≡ Some k → slice_get levels j ≡ Some l → weight k ≤ weight l
  lightest levels all best e i j k l place a b =
      let f = best_is_first weight_waited levels best e in
      let same = same_level levels i best.place k f.there.0 place a f.there.1 in
      let own : weight k ≡ best.measure = some_item (weight k) best.measure (sym (waited k k.waiting refl (all i k a)) ∙ ap weight_waited same ∙ f.there.2) in
      omega (arith, own, f.least j (weight l) l b (waited l l.waiting refl (all j l b)))

  gave_grew : (levels : List (LevelState W)) → AreLow levels → (place level i : ℕ) (y : LevelState W) → (c : Changed (gave_turn place) levels level i y) → Grew (weight c.old) (weight y)
  gave_grew levels low place level i y c =
      subst (λ (v : LevelState W). Grew (weight c.old) (weight v)) (sym c.is)
      (with_turn_grew (nat_lt c.old.turns most_turns) c.old.turns c.old.number (low i c.old c.there))

  -- a take where somebody waits in each level
  pub take_within : (old new : FeedbackState W) (taken : ℕ × W) (gap i j : ℕ) → AreLow old.levels → AllWait old.levels → IsTaken old taken new
      → WeighsWithin gap i j old.levels → WeighsWithin (max gap 16) i j new.levels
  take_within old new taken gap i j low all t within k l at_i at_j =
      pair (changed_get f old.levels t.pick.level i k (subst (λ ls. slice_get ls i ≡ Some k) t.is_given at_i))
      (changed_get f old.levels t.pick.level j l (subst (λ ls. slice_get ls j ≡ Some l) t.is_given at_j))
    where
      f : LevelState W → LevelState W
      f = gave_turn t.pick.place

      p : Picked old.levels t.pick
      p = picked_from old.levels t.pick (next_level old.levels) refl t.is_pick

      pair : Changed f old.levels t.pick.level i k ⊎ (slice_get old.levels i ≡ Some k) → Changed f old.levels t.pick.level j l ⊎ (slice_get old.levels j ≡ Some l) → weight k ≤ weight l + max gap 16
      pair (inr a) (inr b) = omega (arith, within k l a b)
      pair (inl a) (inr b) =
          omega (
            arith,
            (gave_grew old.levels low t.pick.place t.pick.level i k a).most,
            lightest old.levels all p.best p.is_next i j a.old l (a.same ∙ sym p.is_level) a.there b,
          )
      pair (inr a) (inl b) =
          omega (arith, within k b.old a b.there, (gave_grew old.levels low t.pick.place t.pick.level j l b).least)
      pair (inl a) (inl b) =
          omega (arith, ap weight (a.is ∙ ap f (same_level old.levels i j a.old b.old (a.same ∙ sym b.same) a.there b.there) ∙ sym b.is))

  -- an offer leaves a weight, or raises that of a level in which nobody waited
  abbrev OfferedWeight : Option Best → LevelState W → LevelState W → Type 0
  OfferedWeight best old new = (weight new ≡ weight old) ⊎ ((old.waiting ≡ []) × (b : Best) × (best ≡ Some b) × Raised (weight old) b.measure (weight new))

  offer_weighs : (best : Option Best) (entry : Entry W) (level : LevelState W) (entries : List (Entry W)) → level.waiting ≡ entries → level.number ≤ 4
      → OfferedWeight best level (with_entry best entry level entries)
  offer_weighs None entry level [] is few = inl refl
  offer_weighs (Some b) entry level [] is few = inr (is, b, refl, raised level.turns level.number b.measure few)
  offer_weighs best entry level (first ∷ entries) is few = inl refl

  pub offer_within : (old : FeedbackState W) (work : ℕ) (waiter : W) (gap i j : ℕ) → AreLow old.levels → OneIsEmpty old.levels
      → WeighsWithin gap i j old.levels → WeighsWithin (max gap 16) i j (after_offer work waiter old).levels
  offer_within old work waiter gap i j low one within k l at_i at_j =
      pair (changed_get f old.levels (level_of work) i k at_i) (changed_get f old.levels (level_of work) j l at_j)
    where
      entry : Entry W
      entry = record { work = work; waiter = waiter }

      best : Option Best
      best = next_level old.levels

      f : LevelState W → LevelState W
      f = offered_to best entry

      -- against a level that the offer left
      beside : (x : LevelState W) → slice_get old.levels i ≡ Some x → slice_get old.levels j ≡ Some l → OfferedWeight best x k
          → (entries : List (Entry W)) → l.waiting ≡ entries → weight k ≤ weight l + max gap 16
      beside x there b (inl same) entries is = omega (arith, same, within x l there b)
      beside x there b (inr (none, best', next, r)) [] is =
          omega (arith, ap weight (same_level (changed_at (level_of work) f old.levels) i j k l (one i j x l there b none is) at_i at_j))
      beside x there b (inr (none, best', next, r)) (e ∷ es) is =
          let least = (best_is_first weight_waited old.levels best' next).least j (weight l) l b (ap (λ entries. weight_if entries (weight l)) is) in
          omega (arith, r.below, least, within x l there b)

      above : (x y : LevelState W) → OfferedWeight best x y → weight x ≤ weight y
      above x y (inl same) = omega (arith, same)
      above x y (inr (none, best', next, r)) = r.above

      weighs : (i : ℕ) (y : LevelState W) → (c : Changed f old.levels (level_of work) i y) → OfferedWeight best c.old y
      weighs i y c = subst (OfferedWeight best c.old) (sym c.is) (offer_weighs best entry c.old c.old.waiting refl (low i c.old c.there))

      pair : Changed f old.levels (level_of work) i k ⊎ (slice_get old.levels i ≡ Some k) → Changed f old.levels (level_of work) j l ⊎ (slice_get old.levels j ≡ Some l)
          → weight k ≤ weight l + max gap 16
      pair (inr a) (inr b) = omega (arith, within k l a b)
      pair (inl a) (inr b) = beside a.old a.there b (weighs i k a) l.waiting refl
      pair (inr a) (inl b) = omega (arith, within k b.old a b.there, above b.old l (weighs j l b))
      pair (inl a) (inl b) =
          omega (arith, ap weight (a.is ∙ ap f (same_level old.levels i j a.old b.old (a.same ∙ sym b.same) a.there b.there) ∙ sym b.is))

  -- numbers from 0 to 4
  low_at : (levels : List (LevelState W)) (n i : ℕ) (level : LevelState W) (numbers : List ℕ) → map (λ l. l.number) levels ≡ numbers
      → slice_get levels i ≡ Some level → slice_get numbers i ≡ Some level.number
  low_at levels n i level numbers e there = sym (ap (λ (ns : List ℕ). slice_get ns i) e) ∙ slice_get-map (λ (l : LevelState W). l.number) levels i ∙ ap (option_map (λ (l : LevelState W). l.number)) there

  pub numbers_are_low : (levels : List (LevelState W)) → map (λ l. l.number) levels ≡ 0 ∷ 1 ∷ 2 ∷ 3 ∷ 4 ∷ [] → AreLow levels
  numbers_are_low levels e i level there = few_numbers i level.number (low_at levels 0 i level (0 ∷ 1 ∷ 2 ∷ 3 ∷ 4 ∷ []) e there)
