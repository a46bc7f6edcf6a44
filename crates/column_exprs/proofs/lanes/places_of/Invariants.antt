use Rattle.std.proofs.Common.{◌≡◌, ◌+◌, ◌++◌, ◌≤◌, take, length, vec_len, vec_capacity}
use Rattle.column_exprs.specs.Lanes.{marked}
use Rattle.column_exprs.proofs.lanes.places_of.Given as goal

abbrev pub invariant-loop-place : goal.invariant-loop-place
invariant-loop-place l = record {
  room : vec_len l.out + length l.positions ≤ vec_capacity l.out + l.place;
  items : l.out.items ≡ l.fn.out.items ++ marked (take l.place l.mask) (take l.place l.positions);
}
