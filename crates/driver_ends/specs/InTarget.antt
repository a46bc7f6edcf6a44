-- What a `PutTarget` keeps.
use Rattle.std.specs.Prelude.{◌≡◌, ◌≤◌, ◌&&◌, [], false, All, None, is_none, length}
use Rattle.std.specs.Vec.{vec_capacity}
use Rattle.output_buffer.specs.Edges.{end_count}
use Rattle.driver_ends.specs.Outlets.{OutletInOrder}
use Rattle.driver_ends.specs.Targets.{FitsKind, TargetState, may_wait}
use Rattle.driver_ends.specs.declared.put_target.PutTarget.TheInside.{Inside}

abbrev pub target_view : Inside → TargetState
target_view t = record { kind = t.kind; outlets = t.outlets.items; waiting = t.waiting; is_told = t.is_told }

-- it has the outlets of its kind, rows wait only where they may, and it puts no End before it was told to finish,
-- nor while rows wait
pub record IsPutTarget (t : Inside) : Type 0 where
  pub fits : FitsKind t.kind (length t.outlets.items)
  pub waits : may_wait t.kind (length t.outlets.items) ≡ false → t.waiting ≡ None
  pub early : (t.is_told && is_none t.waiting) ≡ false → All (λ outlet. end_count outlet.seat.put ≡ 0) t.outlets.items
  pub order : All OutletInOrder t.outlets.items
  -- the room for the seats that a stop hands back
  pub none : t.seats.items ≡ []
  pub room : length t.outlets.items ≤ vec_capacity t.seats
