-- What a `Spread` and its seats keep.
use Rattle.std.specs.Prelude.{◌≡◌, ◌↔◌, ◌-◌, ◌<◌, ◌≤◌, [], IfSome, true, is_none}
use Rattle.crossbeam_queue.specs.Passes.{view, IsPassOf}
use Rattle.output_buffer.specs.Edges.{PagesThenEnds, all_parts, end_count, unshared, edge_view}
use Rattle.output_buffer.specs.Seats.{edge_of, SpreadPutState, SpreadTakeState, SpreadState}
use Rattle.output_buffer.specs.declared.spread.Spread.TheInside as spread
use Rattle.output_buffer.specs.declared.spread_put.SpreadPut.TheInside as putter
use Rattle.output_buffer.specs.declared.spread_take.SpreadTake.TheInside as taker

abbrev pub spread_view : spread.Inside → SpreadState
spread_view s = record {
  edge = edge_of s.queue s.bells;
  takers = s.takers;
  is_handed_out = is_none s.pass;
}

pub record IsSpread (s : spread.Inside) : Type 0 where
  pub some : 0 < s.takers
  pub pass : IfSome s.pass (λ p. IsPassOf s.queue p × (view p ≡ unshared))

abbrev pub spread_put_view : putter.Inside → SpreadPutState
spread_put_view s = record {
  edge = edge_of s.queue.now s.bells;
  takers = s.takers;
  put = (view s.pass).put;
  fulls = s.fulls;
  looked_at = s.looked_at;
}

-- the putter may put pages until it put an End
pub record IsSpreadPut (s : putter.Inside) : Type 0 where
  pub of : IsPassOf s.queue.now s.pass
  pub some : 0 < s.takers
  pub few : s.takers < all_parts
  pub rest : view s.pass ≡ edge_view (all_parts - s.takers) (1 - end_count (view s.pass).put) (view s.pass).put []
  pub most : end_count (view s.pass).put ≤ s.takers
  pub order : PagesThenEnds (view s.pass).put

abbrev pub spread_take_view : taker.Inside → SpreadTakeState
spread_take_view s = record {
  edge = edge_of s.queue.now s.bells;
  took = (view s.pass).took;
  empties = s.empties;
  looked_at = s.looked_at;
}

pub record IsSpreadTake (s : taker.Inside) : Type 0 where
  pub of : IsPassOf s.queue.now s.pass
  pub one : view s.pass ≡ edge_view 1 0 [] (view s.pass).took
  pub ended : (s.is_ended ≡ true) ↔ (0 < end_count (view s.pass).took)
