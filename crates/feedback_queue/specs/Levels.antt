-- The levels of a queue, and who waits in them.
use Rattle.std.specs.Prelude.{ℕ, ◌*◌, ◌^◌, List, [], ◌∷◌, nat_lt, if◌then◌else◌, Option, Some, None}
use Rattle.feedback_queue.specs.declared.level.Entry.{Entry}

-- the level of so much work
abbrev pub level_of : ℕ → ℕ
level_of work =
    if nat_lt work 1_000_000 then 0
    else if nat_lt work 10_000_000 then 1
    else if nat_lt work 60_000_000 then 2
    else if nat_lt work 300_000_000 then 3
    else 4

-- a level: its number, how many turns it had, and who waits in it, in the order in which they came
pub record LevelState (W : Type 0) : Type 0 where
  pub number : ℕ
  pub turns : ℕ
  pub waiting : List (Entry W)

-- the higher a level, the more each of its turns weighs
abbrev pub weight : {W : Type 0} → LevelState W → ℕ
weight level = level.turns * 2 ^ level.number

-- the weight of a level in which somebody waits
abbrev pub weight_if : {W : Type 0} → List (Entry W) → ℕ → Option ℕ
weight_if [] n = None
weight_if (entry ∷ entries) n = Some n

abbrev pub weight_waited : {W : Type 0} → LevelState W → Option ℕ
weight_waited level = weight_if level.waiting (weight level)

abbrev pub work_of : {W : Type 0} → Entry W → Option ℕ
work_of entry = Some entry.work
