use Rattle.std.proofs.Common.{length, ◌*◌}
use Rattle.column_exprs.specs.Lanes.{AreMarked, numbers}
use Rattle.column_exprs.proofs.lanes.compare_numbers.Given as goal

abbrev pub invariant-loop-eight : goal.invariant-loop-eight
invariant-loop-eight l = AreMarked l.op l.a (numbers l.b (length l.a)) (8 * l.eight) l.out
