-- What sources keep.
use Rattle.driver_ends.specs.Sources.{HoldsLast, LocalState, RemoteState}
use Rattle.driver_ends.specs.declared.local_source.LocalSource.TheInside as local
use Rattle.driver_ends.specs.declared.remote_source.RemoteSource.TheInside as remote

abbrev pub local_view : local.Inside → LocalState
local_view s = record { seat = s.seat; inbox = s.inbox }

pub record IsLocalSource (s : local.Inside) : Type 0 where
  pub last : HoldsLast s.seat.took s.inbox

abbrev pub remote_view : remote.Inside → RemoteState
remote_view s = record { seat = s.seat; inbox = s.inbox }

pub record IsRemoteSource (s : remote.Inside) : Type 0 where
  pub last : HoldsLast s.seat.took s.inbox
