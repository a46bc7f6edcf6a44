use Rattle.std.proofs.Common.{length}
use Rattle.column_exprs.specs.Lanes.{AreMarked, numbers}
use Rattle.column_exprs.proofs.lanes.compare_rest.Given as goal

abbrev pub invariant-loop-place : goal.invariant-loop-place
invariant-loop-place l = AreMarked l.op l.a (numbers l.b (length l.a)) l.place l.out
