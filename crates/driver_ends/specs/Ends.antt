-- What the driver between a source and a target over edges knows of them.
use Rattle.std.specs.Prelude.{◌≡◌, ℕ, List, Bool, true, false, not, ◌&&◌, ◌||◌, Option, Some, None, find, is_none, map, nat_le, nat_lt}
use Rattle.std.specs.List.{list_all}
use Rattle.sql_values.specs.declared.value.Value.{Value}
use Rattle.output_buffer.specs.Edges.{end_count}
use Rattle.output_buffer.specs.Seats.{new_gather_put, new_gather_take, new_spread_put, new_spread_take}
use Rattle.stage_moves.specs.Looks.{Looks}
use Rattle.driver_ends.specs.Deals.{DealState, new_deal, rows_dealt}
use Rattle.driver_ends.specs.Outlets.{OutletState, new_outlet}
use Rattle.driver_ends.specs.Sources.{LocalState, RemoteState, handed_on, new_local, new_remote}
use Rattle.driver_ends.specs.Targets.{TargetState, fulls_of, may_end}

-- `IsClear` and `IsThrough`
abbrev pub is_clear : OutletState → Bool
is_clear outlet = is_none outlet.held

abbrev pub is_through : Bool → OutletState → Bool
is_through told outlet = is_none outlet.held && (not told || nat_lt 0 (end_count outlet.seat.put))

-- `Wants` and `IsFinished`
abbrev pub put_wants : TargetState → Bool
put_wants t = not t.is_told && list_all is_clear t.outlets

abbrev pub put_finished : TargetState → Bool
put_finished t = may_end t && list_all (is_through true) t.outlets

-- an outlet, and a target, as it was made
abbrev pub outlet_as_made : OutletState → OutletState
outlet_as_made outlet = new_outlet (new_gather_put outlet.seat.edge outlet.seat.number)

abbrev pub put_as_made : TargetState → TargetState
put_as_made t = record { kind = t.kind; outlets = map outlet_as_made t.outlets; waiting = None; is_told = false }

-- the first of its outlets that is not through: that is the one at whose bell it waits
abbrev pub first_waiting : TargetState → Option OutletState
first_waiting t = find (λ outlet. not (is_through (may_end t) outlet)) t.outlets

abbrev pub space_of : Option OutletState → ℕ
space_of None = 0
space_of (Some outlet) = outlet.seat.edge.bells.space

abbrev pub count_of : Option OutletState → ℕ
count_of None = 0
count_of (Some outlet) = outlet.seat.looked_at

-- its looks in vain are the puts that found an edge full
abbrev pub put_looks : TargetState → Looks
put_looks t = record {
  bell = space_of (first_waiting t);
  in_vain = fulls_of t.outlets;
  looked_at = count_of (first_waiting t);
}

-- The same of a target over an edge of many takers: `DealWants` and `IsDealt`, as it was made, and its looks.
abbrev pub deal_wants : DealState → Bool
deal_wants deal = not deal.is_told && is_none deal.held

abbrev pub deal_finished : DealState → Bool
deal_finished deal = deal.is_told && (is_none deal.held && nat_le deal.seat.takers (end_count deal.seat.put))

abbrev pub deal_as_made : DealState → DealState
deal_as_made deal = new_deal (new_spread_put deal.seat.edge deal.seat.takers)

abbrev pub deal_looks : DealState → Looks
deal_looks deal = record {
  bell = deal.seat.edge.bells.space;
  in_vain = deal.seat.fulls;
  looked_at = deal.seat.looked_at;
}

abbrev pub HasDealt : DealState → List (List Value) → Type 0
HasDealt deal given = rows_dealt deal ≡ given

-- Sources: the rows that were handed on.
abbrev pub local_taken : LocalState → List (List Value)
local_taken s = handed_on s.seat.took s.inbox

-- `IsLocalEnded`
abbrev pub local_ended : LocalState → Bool
local_ended s = is_none s.inbox && nat_le s.seat.putters (end_count s.seat.took)

abbrev pub local_as_made : LocalState → LocalState
local_as_made s = new_local (new_gather_take s.seat.edge s.seat.putters)

abbrev pub local_looks : LocalState → Looks
local_looks s = record { bell = s.seat.edge.bells.piece; in_vain = s.seat.empties; looked_at = s.seat.looked_at }

abbrev pub remote_taken : RemoteState → List (List Value)
remote_taken s = handed_on s.seat.took s.inbox

-- `IsRemoteEnded`
abbrev pub remote_ended : RemoteState → Bool
remote_ended s = is_none s.inbox && nat_lt 0 (end_count s.seat.took)

abbrev pub remote_as_made : RemoteState → RemoteState
remote_as_made s = new_remote (new_spread_take s.seat.edge)

abbrev pub remote_looks : RemoteState → Looks
remote_looks s = record { bell = s.seat.edge.bells.piece; in_vain = s.seat.empties; looked_at = s.seat.looked_at }
