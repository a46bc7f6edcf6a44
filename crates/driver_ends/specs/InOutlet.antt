-- What an `Outlet` keeps.
use Rattle.std.specs.Prelude.{◌≡◌, ◌↔◌, ◌<◌, true}
use Rattle.output_buffer.specs.Edges.{end_count}
use Rattle.driver_ends.specs.Outlets.{IsInOrder, OutletState}
use Rattle.driver_ends.specs.declared.outlet.Outlet.TheInside.{Inside}

abbrev pub outlet_view : Inside → OutletState
outlet_view l = record { seat = l.seat; held = l.held }

pub record IsOutlet (l : Inside) : Type 0 where
  pub order : IsInOrder l.seat.put l.held
  pub ended : (l.has_put_end ≡ true) ↔ (0 < end_count l.seat.put)
