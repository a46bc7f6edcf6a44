use Rattle.std.proofs.Common.{◌≡◌}
use Rattle.column_exprs.specs.Kept.{kept}
use Rattle.column_exprs.specs.Operands.{operand_cell}
use Rattle.column_exprs.proofs.kept.kept_positions.Given as goal

abbrev pub invariant-loop-place : goal.invariant-loop-place
invariant-loop-place l = l.kept.items ≡ kept l.test (operand_cell l.operand) l.positions l.place
