use Rattle.std.proofs.Common.{◌≡◌, ◌+◌, ◌≤◌, take, length, map, vec_len, vec_capacity}
use Rattle.column_exprs.specs.Comparisons.{holds}
use Rattle.column_exprs.proofs.compare.item_truths.Given as goal

abbrev pub invariant-loop-item : goal.invariant-loop-item
invariant-loop-item g l = record {
  room : vec_len l.truths + length l.items ≤ vec_capacity l.truths + l.item-index;
  items : l.truths.items ≡ map (λ x. holds l.op (g.T.Ord.cmp x l.value)) (take l.item-index l.items);
}
