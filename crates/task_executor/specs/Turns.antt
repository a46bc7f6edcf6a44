-- What turns leave of drivers.
use Rattle.std.specs.Prelude.{◌≡◌, List, All, Contains, Option, None, Some, is_some, true, false}
use Rattle.std.proofs.Common.{refl}
use Rattle.driver_loop.specs.Drivers.{DriverState}
use Rattle.driver_loop.specs.declared.run_fault.RunFault.{RunFault}
use Rattle.driver_loop.specs.declared.run_fault.RunFault.TheVariants.{ExprFailed, Memory}
use Rattle.net_closing.specs.Closing.{AreWholeDrivers}

-- none of them failed
abbrev pub AreUnfailed : List DriverState → Type 0
AreUnfailed drivers = All (λ d. d.fault ≡ None) drivers

abbrev pub AreFinished : List DriverState → Type 0
AreFinished drivers = All (λ d. d.is_finished ≡ true) drivers

-- one of the drivers failed in this way, and none for want of memory
abbrev pub AreFailing : List DriverState → RunFault → Type 0
AreFailing drivers (ExprFailed node kind) = AreWholeDrivers drivers × ((d : DriverState) × Contains drivers d × (d.fault ≡ Some (ExprFailed node kind)))
AreFailing drivers Memory = Unit {0}

-- where no fault is seen there is none
pub unfailed : (fault : Option RunFault) → is_some fault ≡ false → fault ≡ None
unfailed None whole = refl
unfailed (Some fault) whole = absurd cc
