-- A queue of five levels: who comes next, and what an offer and a take make of it.
use Rattle.std.specs.Prelude.{◌≡◌, ℕ, zero, suc, ◌+◌, ◌-◌, ◌/◌, ◌^◌, max, List, [], ◌∷◌, ◌++◌, flat_map, map, nat_lt, if◌then◌else◌, Option, Some, None, option_map, option_and_then, slice_get, unwrap_or}
use Rattle.std.specs.List.{remove}
use Rattle.feedback_queue.specs.declared.best.Best.{Best}
use Rattle.feedback_queue.specs.declared.level.Entry.{Entry}
use Rattle.feedback_queue.specs.Levels.{LevelState, level_of, weight_waited, work_of}
use Rattle.feedback_queue.specs.Picks.{IsFirstOfLeast, best_from}

-- turns are counted up to here
abbrev pub most_turns : ℕ
most_turns = 2 ^ 59

abbrev pub with_turn : ℕ → ℕ
with_turn turns = if nat_lt turns most_turns then turns + 1 else turns

-- the level that comes next: the one of the least weight in which somebody waits, at a tie the lowest
abbrev pub next_level : {W : Type 0} → List (LevelState W) → Option Best
next_level levels = best_from weight_waited 0 levels

-- who comes next in a level: who did the least work, at a tie the one that came first
abbrev pub next_in : {W : Type 0} → List (Entry W) → Option Best
next_in entries = best_from work_of 0 entries

-- a level that gave a turn to the one at a place
abbrev pub gave_turn : {W : Type 0} → ℕ → LevelState W → LevelState W
gave_turn place level = record level { turns = with_turn level.turns; waiting = remove level.waiting place }

-- the place of who comes next
pub record IsNext {W : Type 0} (entries : List (Entry W)) (place : ℕ) : Type 0 where
  pub best : Best
  pub is_best : next_in entries ≡ Some best
  pub is_place : best.place ≡ place

-- the level gave a turn to who comes next, who leaves it
pub record TakenFrom {W : Type 0} (old : LevelState W) (taken : ℕ × W) (new : LevelState W) : Type 0 where
  pub place : ℕ
  pub is_next : IsNext old.waiting place
  pub there : slice_get old.waiting place ≡ Some (record { work = taken.0; waiter = taken.1 })
  pub is_given : new ≡ gave_turn place old

-- the least number of turns with which a level weighs so much
abbrev pub turns_for : ℕ → ℕ → ℕ
turns_for least number = (least + (2 ^ number - 1)) / 2 ^ number

-- a level in which nobody waited catches up with the least weight of those in which somebody waits
abbrev pub caught_up : {W : Type 0} → Option Best → LevelState W → LevelState W
caught_up None level = level
caught_up (Some best) level = record level { turns = max level.turns (turns_for best.measure level.number) }

-- a level with one more, where the best of all levels is known
abbrev pub with_entry : {W : Type 0} → Option Best → Entry W → LevelState W → List (Entry W) → LevelState W
with_entry best entry level [] = record (caught_up best level) { waiting = entry ∷ [] }
with_entry best entry level (first ∷ entries) = record level { waiting = (first ∷ entries) ++ entry ∷ [] }

abbrev pub offered_to : {W : Type 0} → Option Best → Entry W → LevelState W → LevelState W
offered_to best entry level = with_entry best entry level level.waiting

-- who waits, in five levels
pub record FeedbackState (W : Type 0) : Type 0 where
  pub levels : List (LevelState W)

abbrev pub empty_level : {W : Type 0} → ℕ → LevelState W
empty_level number = record { number = number; turns = 0; waiting = [] }

-- nobody waits, and no level had a turn
abbrev pub empty_queue : {W : Type 0} → FeedbackState W
empty_queue = record { levels = map empty_level (0 ∷ 1 ∷ 2 ∷ 3 ∷ 4 ∷ []) }

-- all who wait
abbrev pub all_waiting : {W : Type 0} → FeedbackState W → List (Entry W)
all_waiting queue = flat_map (λ level. level.waiting) queue.levels

-- the list with the item at a place changed
abbrev pub changed_at : {X : Type 0} → ℕ → (X → X) → List X → List X
changed_at place f [] = []
changed_at zero f (x ∷ xs) = f x ∷ xs
changed_at (suc place) f (x ∷ xs) = x ∷ changed_at place f xs

-- with one more, in the level of the work that was done for it
abbrev pub after_offer : {W : Type 0} → ℕ → W → FeedbackState W → FeedbackState W
after_offer work waiter queue =
    record { levels = changed_at (level_of work) (offered_to (next_level queue.levels) (record { work = work; waiter = waiter })) queue.levels }

-- a level, and a place in it
pub record LevelPlace : Type 0 where
  pub level : ℕ
  pub place : ℕ

abbrev pub waiting_at : {W : Type 0} → List (LevelState W) → ℕ → List (Entry W)
waiting_at levels place = unwrap_or (option_map (λ level. level.waiting) (slice_get levels place)) []

-- who comes next in the level at a place got a turn, and waits no more
pub record TakenAt {W : Type 0} (level : ℕ) (old : List (LevelState W)) (taken : ℕ × W) (new : List (LevelState W)) : Type 0 where
  pub place : ℕ
  pub is_next : IsNext (waiting_at old level) place
  pub there : slice_get (waiting_at old level) place ≡ Some (record { work = taken.0; waiter = taken.1 })
  pub is_given : new ≡ changed_at level (gave_turn place) old

-- who comes next in the level that comes next
abbrev pub pick_of : {W : Type 0} → FeedbackState W → Option LevelPlace
pick_of queue =
    option_and_then (λ level. option_map (λ best. record { level = level.place; place = best.place }) (next_in (waiting_at queue.levels level.place)))
    (next_level queue.levels)

-- the pick's level is the first of the least weight of those in which somebody waits, and its place the first of the
-- least work in it
pub record IsFirstOfAll {W : Type 0} (queue : FeedbackState W) (pick : LevelPlace) : Type 0 where
  pub level : Best
  pub is_level : level.place ≡ pick.level
  pub lightest : IsFirstOfLeast weight_waited queue.levels level
  pub entry : Best
  pub is_place : entry.place ≡ pick.place
  pub least : IsFirstOfLeast work_of (waiting_at queue.levels pick.level) entry

-- who is picked got a turn of its level, and waits no more
pub record IsTaken {W : Type 0} (old : FeedbackState W) (taken : ℕ × W) (new : FeedbackState W) : Type 0 where
  pub pick : LevelPlace
  pub is_pick : pick_of old ≡ Some pick
  pub there : slice_get (waiting_at old.levels pick.level) pick.place ≡ Some (record { work = taken.0; waiter = taken.1 })
  pub is_given : new.levels ≡ changed_at pick.level (gave_turn pick.place) old.levels

abbrev pub turns_at : {W : Type 0} → List (LevelState W) → ℕ → ℕ
turns_at levels place = unwrap_or (option_map (λ level. level.turns) (slice_get levels place)) 0
