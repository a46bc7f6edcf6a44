-- What a `DealTarget` keeps.
use Rattle.std.specs.Prelude.{◌≡◌, ◌-◌, false}
use Rattle.output_buffer.specs.Edges.{end_count}
use Rattle.driver_ends.specs.Deals.{DealState}
use Rattle.driver_ends.specs.Outlets.{IsInOrder}
use Rattle.driver_ends.specs.declared.deal_target.DealTarget.TheInside.{Inside}

abbrev pub deal_view : Inside → DealState
deal_view d = record { seat = d.seat; held = d.held; is_told = d.is_told }

-- no End is put before it was told to finish
pub record IsDealTarget (d : Inside) : Type 0 where
  pub order : IsInOrder d.seat.put d.held
  pub ended : d.left ≡ d.seat.takers - end_count d.seat.put
  pub early : d.is_told ≡ false → end_count d.seat.put ≡ 0
