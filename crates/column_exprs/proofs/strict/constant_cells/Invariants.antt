use Rattle.std.proofs.Common.{◌≡◌}
use Rattle.std.specs.Prelude.{Ok}
use Rattle.sql_values.specs.Cells.{lent_value}
use Rattle.column_exprs.specs.Operands.{AreOutcomes}
use Rattle.column_exprs.proofs.strict.constant_cells.Given as goal

abbrev pub invariant-loop-place : goal.invariant-loop-place
invariant-loop-place l = record {
  kind : l.block.kind ≡ l.fn.kind;
  values : AreOutcomes (λ _. Ok (lent_value l.value)) l._place l.block.cells;
}
