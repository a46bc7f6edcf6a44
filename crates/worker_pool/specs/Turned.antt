-- What became of an item in its turn.
use Rattle.std.specs.Prelude.{◌≡◌, ◌⊎◌, Bool, true}
use Rattle.worker_pool.specs.declared.turned.AfterTurn.{AfterTurn}
use Rattle.worker_pool.specs.declared.turned.AfterTurn.TheVariants.{Ready, Waits, Over}
use Rattle.worker_pool.specs.Items.{IsNow, PlacedItem, Waiting}

-- it is the one that had the turn; where it has no more, it is finished or has failed
abbrev pub IsTurned : {T : Type 0} → (T → T → Type 0) → (T → Bool) → (T → Bool) → PlacedItem T → AfterTurn (PlacedItem T) (Waiting T) (PlacedItem T) → Type 0
IsTurned follows is_finished has_failed before (Ready after) = IsNow follows before after
IsTurned follows is_finished has_failed before (Waits waiter) = IsNow follows before waiter.runner
IsTurned follows is_finished has_failed before (Over after) =
    IsNow follows before after × ((is_finished after.item ≡ true) ⊎ (has_failed after.item ≡ true))
