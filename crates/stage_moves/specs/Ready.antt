-- What a look of a source found.
use Rattle.std.specs.Prelude.{ℕ}
use Rattle.count_laws.specs.Counts.{Rose}
use Rattle.stage_moves.specs.Looks.{Looks, HasWaited}
use Rattle.stage_moves.specs.declared.ends.Ready.{Ready}
use Rattle.stage_moves.specs.declared.ends.Ready.TheVariants.{Now, Missed, Blocked}

-- nothing to wait for; an ask in vain, which was counted; or a look in vain
abbrev pub IsReady : Looks → Looks → ℕ → ℕ → (ℕ → ℕ → Type 0) → Ready → Type 0
IsReady old new missed misses shown Now = Unit {0}
IsReady old new missed misses shown Missed = Rose missed misses
IsReady old new missed misses shown (Blocked on) = HasWaited old new shown on
