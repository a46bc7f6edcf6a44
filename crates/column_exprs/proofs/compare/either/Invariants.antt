use Rattle.std.proofs.Common.{◌≡◌, ◌+◌, ◌≤◌, ◌||◌, take, length, vec_len, vec_capacity}
use lib.Lanes.{zip2}
use Rattle.column_exprs.proofs.compare.either.Given as goal

abbrev pub invariant-loop-place : goal.invariant-loop-place
invariant-loop-place l = record {
  room : vec_len l.marks + length l.a ≤ vec_capacity l.marks + l.place;
  items : l.marks.items ≡ zip2 ◌||◌ (take l.place l.a) (take l.place l.b);
}
