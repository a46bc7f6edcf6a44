-- What is known of the looks of an end of a driver.
use Rattle.std.specs.Prelude.{◌≡◌, ℕ, false}
use Rattle.count_laws.specs.Counts.{Rose}
use Rattle.blocked.specs.declared.blocked_on.BlockedOn.{BlockedOn}

-- the bell at which it would wait, how many of its looks were in vain, and the count that the last of these
-- was handed
pub record Looks : Type 0 where
  pub bell : ℕ
  pub in_vain : ℕ
  pub looked_at : ℕ

-- of an end that never waits
abbrev pub no_looks : Looks
no_looks = record { bell = 0; in_vain = 0; looked_at = 0 }

-- it looked in vain, with the count that is named, which the bell showed
pub record HasWaited (old new : Looks) (shown : ℕ → ℕ → Type 0) (on : BlockedOn) : Type 0 where
  pub looked : Rose old.in_vain new.in_vain
  pub bell : on.bell ≡ new.bell
  pub seen : shown on.bell on.seen
  pub handed : new.looked_at ≡ on.seen
  pub unrung : on.rung ≡ false
