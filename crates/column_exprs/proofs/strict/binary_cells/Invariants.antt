use Rattle.std.proofs.Common.{◌≡◌}
use Rattle.column_exprs.specs.Operands.{AreOutcomes, binary_at}
use Rattle.column_exprs.proofs.strict.binary_cells.Given as goal

abbrev pub invariant-loop-place : goal.invariant-loop-place
invariant-loop-place l = record {
  kind : l.block.kind ≡ l.fn.kind;
  values : AreOutcomes (binary_at l.name l.left l.right) l.place l.block.cells;
}
