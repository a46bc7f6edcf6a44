-- What a turn that answers Blocked says of where its driver waits.
use Rattle.std.proofs.Common.{◌≡◌, inl, inr, ℕ, sym}
use Rattle.blocked.specs.declared.blocked_on.BlockedOn.{BlockedOn}
use Rattle.driver_loop.specs.Drivers.{DriverState}
use Rattle.driver_loop.specs.Turns.{IsWaiting}
use Rattle.task_executor.specs.Waits.{WaitsAt}

pub waits_at : (d e : DriverState) (shown : ℕ → ℕ → Type 0) (on : BlockedOn) → IsWaiting d e shown on → WaitsAt e on.bell on.seen
waits_at d e shown on (inl (inl stage, untold)) =
    inl (record { stage = stage.after; there = (stage.place, stage.there, sym stage.is); waits = stage.waits; unknown = stage.unknown; bell_is = stage.bell; handed = stage.handed })
waits_at d e shown on (inl (inr source, untold)) = inr (inl (record { bell_is = source.bell; handed = source.handed }))
waits_at d e shown on (inr target) = inr (inr (record { bell_is = target.bell; handed = target.handed }))

pub was_shown : (d e : DriverState) (shown : ℕ → ℕ → Type 0) (on : BlockedOn) → IsWaiting d e shown on → shown on.bell on.seen
was_shown d e shown on (inl (inl stage, untold)) = stage.seen
was_shown d e shown on (inl (inr source, untold)) = source.seen
was_shown d e shown on (inr target) = target.seen
