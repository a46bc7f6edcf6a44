-- Items that are given turns, and which of those that came they are.
use Rattle.std.specs.Prelude.{◌≡◌, ℕ, List, Bool, false, Some, slice_get}

-- an item, and the place of the one that came
pub record PlacedItem (T : Type 0) : Type 0 where
  pub place : ℕ
  pub item : T

-- turns have made the item of the one that came at its place
pub record CameAs {T : Type 0} (follows : T → T → Type 0) (came : List T) (x : PlacedItem T) : Type 0 where
  pub first : T
  pub there : slice_get came x.place ≡ Some first
  pub later : follows first x.item

-- it can have a turn
pub record CanTurn {T : Type 0} (is_finished has_failed : T → Bool) (item : T) : Type 0 where
  pub unfinished : is_finished item ≡ false
  pub unfailed : has_failed item ≡ false

-- one of those that came, which can have a turn
pub record IsRunner {T : Type 0} (follows : T → T → Type 0) (is_finished has_failed : T → Bool) (came : List T) (x : PlacedItem T) : Type 0 where
  pub came_as : CameAs follows came x
  pub can_turn : CanTurn is_finished has_failed x.item

-- one that waits at a bell, and the count of the bell that it saw
pub record Waiting (T : Type 0) : Type 0 where
  pub runner : PlacedItem T
  pub bell : ℕ
  pub seen : ℕ

-- a turn has made the one of the other
pub record IsNow {T : Type 0} (follows : T → T → Type 0) (before after : PlacedItem T) : Type 0 where
  pub place : after.place ≡ before.place
  pub later : follows before.item after.item
