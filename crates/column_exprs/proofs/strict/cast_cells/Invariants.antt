use Rattle.std.proofs.Common.{◌≡◌}
use Rattle.column_exprs.specs.Operands.{AreOutcomes, cast_at}
use Rattle.column_exprs.proofs.strict.cast_cells.Given as goal

abbrev pub invariant-loop-place : goal.invariant-loop-place
invariant-loop-place l = record {
  kind : l.block.kind ≡ l.kind;
  values : AreOutcomes (cast_at l.kind l.arg) l.place l.block.cells;
}
