use Rattle.std.proofs.Common.{◌≡◌, length, take}
use Rattle.std.specs.List.{range_with_len}
use Rattle.column_exprs.proofs.eval.are_all.Given as goal

abbrev pub invariant-loop-place : goal.invariant-loop-place
invariant-loop-place l = (length l.positions ≡ l.count) × (take l.place l.positions ≡ range_with_len 0 l.place)
