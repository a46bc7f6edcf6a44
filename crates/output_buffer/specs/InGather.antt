-- What a `Gather` and its seats keep.
use Rattle.std.specs.Prelude.{◌≡◌, ◌-◌, ◌<◌, ◌≤◌, [], All, IfSome, is_none}
use Rattle.crossbeam_queue.specs.Passes.{view, IsPassOf}
use Rattle.output_buffer.specs.Edges.{PagesThenEnds, all_parts, end_count, unshared, edge_view}
use Rattle.output_buffer.specs.Seats.{edge_of, GatherState, HasOwnNumber, GatherPutState, GatherTakeState}
use Rattle.output_buffer.specs.declared.gather.Gather.TheInside as gather
use Rattle.output_buffer.specs.declared.gather_put.GatherPut.TheInside as putter
use Rattle.output_buffer.specs.declared.gather_take.GatherTake.TheInside as taker

abbrev pub gather_view : gather.Inside → GatherState
gather_view g = record {
  edge = edge_of g.queue g.bells;
  putters = g.putters;
  is_handed_out = is_none g.pass;
}

pub record IsGather (g : gather.Inside) : Type 0 where
  pub some : 0 < g.putters
  pub pass : IfSome g.pass (λ p. IsPassOf g.queue p × (view p ≡ unshared))

abbrev pub gather_put_view : putter.Inside → GatherPutState
gather_put_view s = record {
  edge = edge_of s.queue.now s.bells;
  number = s.number;
  put = (view s.pass).put;
  fulls = s.fulls;
  looked_at = s.looked_at;
}

-- a putter may put pages until it put its End
pub record IsGatherPut (s : putter.Inside) : Type 0 where
  pub of : IsPassOf s.queue.now s.pass
  pub one : view s.pass ≡ edge_view 1 (1 - end_count (view s.pass).put) (view s.pass).put []
  pub once : end_count (view s.pass).put ≤ 1
  pub order : PagesThenEnds (view s.pass).put
  pub own : All (HasOwnNumber s.number) (view s.pass).put

abbrev pub gather_take_view : taker.Inside → GatherTakeState
gather_take_view s = record {
  edge = edge_of s.queue.now s.bells;
  putters = s.putters;
  took = (view s.pass).took;
  empties = s.empties;
  looked_at = s.looked_at;
}

pub record IsGatherTake (s : taker.Inside) : Type 0 where
  pub of : IsPassOf s.queue.now s.pass
  pub rest : view s.pass ≡ edge_view (all_parts - s.putters) 0 [] (view s.pass).took
  pub few : s.putters < all_parts
  pub left : s.left ≡ s.putters - end_count (view s.pass).took
