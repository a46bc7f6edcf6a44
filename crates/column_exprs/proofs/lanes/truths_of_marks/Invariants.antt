use Rattle.std.proofs.Common.{◌≡◌, ◌+◌, ◌≤◌, take, length, map, vec_len, vec_capacity}
use Rattle.column_exprs.specs.Lanes.{is_marked}
use Rattle.column_exprs.proofs.lanes.truths_of_marks.Given as goal

abbrev pub invariant-loop-mark : goal.invariant-loop-mark
invariant-loop-mark l = record {
  room : vec_len l.truths + length l.marks ≤ vec_capacity l.truths + l.mark-index;
  items : l.truths.items ≡ map is_marked (take l.mark-index l.marks);
}
