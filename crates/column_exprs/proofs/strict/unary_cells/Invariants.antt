use Rattle.std.proofs.Common.{◌≡◌}
use Rattle.column_exprs.specs.Operands.{AreOutcomes, unary_at}
use Rattle.column_exprs.proofs.strict.unary_cells.Given as goal

abbrev pub invariant-loop-place : goal.invariant-loop-place
invariant-loop-place l = record {
  kind : l.block.kind ≡ l.fn.kind;
  values : AreOutcomes (unary_at l.name l.arg) l.place l.block.cells;
}
