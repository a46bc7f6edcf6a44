-- Drivers by their numbers, while they are made.
use Rattle.std.specs.Prelude.{◌≡◌, ℕ, List, false, Option, Some, None, length, slice_get}
use Rattle.net_parts.specs.Drivers.{DriverState}
use Rattle.net_parts.specs.Pipes.{PipeForm, driver_number}
use Rattle.net_parts.specs.Nets.{IsDriverOf, NetForm}

-- no turn of it was over
pub record IsNew (d : DriverState) : Type 0 where
  pub going : d.is_finished ≡ false
  pub unfailed : d.fault ≡ None

-- the slot of the number is filled
pub record HasSlot (net : NetForm) (slots : List (Option DriverState)) (at : ℕ) (pipe : PipeForm) (task lane : ℕ) : Type 0 where
  pub driver : DriverState
  pub there : slice_get slots (driver_number pipe task lane) ≡ Some (Some driver)
  pub is : IsDriverOf net at pipe task lane driver

-- all that were filled are new
abbrev pub AreNew : List (Option DriverState) → Type 0
AreNew slots = (number : ℕ) (d : DriverState) → slice_get slots number ≡ Some (Some d) → IsNew d

-- slots that were filled stay as they are, and new drivers fill others
pub record HaveGrown (old new : List (Option DriverState)) : Type 0 where
  pub kept : (number : ℕ) (d : DriverState) → slice_get old number ≡ Some (Some d) → slice_get new number ≡ Some (Some d)
  pub count : length new ≡ length old
  pub fresh : AreNew old → AreNew new
