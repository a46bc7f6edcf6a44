-- How far the weights of levels are apart.
use Rattle.std.specs.Prelude.{◌≡◌, ℕ, ◌+◌, ◌≤◌, List, [], Some, slice_get}
use Rattle.feedback_queue.specs.Levels.{LevelState, weight}

-- the weight of the level at i is at most so much above that of the level at j
abbrev pub WeighsWithin : {W : Type 0} → ℕ → ℕ → ℕ → List (LevelState W) → Type 0
WeighsWithin {W} gap i j levels = (k l : LevelState W) → slice_get levels i ≡ Some k → slice_get levels j ≡ Some l → weight k ≤ weight l + gap

-- somebody waits in each level
abbrev pub AllWait : {W : Type 0} → List (LevelState W) → Type 0
AllWait {W} levels = (i : ℕ) (level : LevelState W) → slice_get levels i ≡ Some level → level.waiting ≡ [] → ⊥

-- nobody waits in one level at most
abbrev pub OneIsEmpty : {W : Type 0} → List (LevelState W) → Type 0
OneIsEmpty {W} levels = (i j : ℕ) (k l : LevelState W) → slice_get levels i ≡ Some k → slice_get levels j ≡ Some l
    → k.waiting ≡ [] → l.waiting ≡ [] → i ≡ j

abbrev pub AreLow : {W : Type 0} → List (LevelState W) → Type 0
AreLow {W} levels = (i : ℕ) (level : LevelState W) → slice_get levels i ≡ Some level → level.number ≤ 4
