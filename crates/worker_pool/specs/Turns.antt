-- What a turn leaves.
use Rattle.std.specs.Prelude.{◌≡◌, Bool, true, false}
use Rattle.blocked.specs.declared.blocked_on.BlockedOn.{BlockedOn}
use Rattle.worker_pool.specs.declared.turning.Turn.{Turn}
use Rattle.worker_pool.specs.declared.turning.Turn.TheVariants.{Yield, Blocked, Finished, Failed}

-- whether it is finished, and whether it has failed, as the turn answered
abbrev pub IsLeftBy : Turn → Bool → Bool → Type 0
IsLeftBy Yield finished failed = (finished ≡ false) × (failed ≡ false)
IsLeftBy (Blocked on) finished failed = (finished ≡ false) × (failed ≡ false)
IsLeftBy Finished finished failed = (finished ≡ true) × (failed ≡ false)
IsLeftBy Failed finished failed = failed ≡ true

-- a fact of what it waits for
abbrev pub IfBlocked : Turn → (BlockedOn → Type 0) → Type 0
IfBlocked Yield P = Unit {0}
IfBlocked (Blocked on) P = P on
IfBlocked Finished P = Unit {0}
IfBlocked Failed P = Unit {0}
