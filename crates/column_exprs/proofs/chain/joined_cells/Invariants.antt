use Rattle.std.proofs.Common.{◌≡◌, length}
use Rattle.column_exprs.specs.Chains.{chain_test, joined_at}
use Rattle.column_exprs.specs.Kept.{kept}
use Rattle.column_exprs.specs.Operands.{AreOutcomes, operand_cell}
use Rattle.column_exprs.proofs.chain.joined_cells.Given as goal

abbrev pub invariant-loop-place : goal.invariant-loop-place
invariant-loop-place l = record {
  kind : l.block.kind ≡ l.fn.kind;
  next : l.next ≡ length (kept (chain_test l.chain) (operand_cell l.so_far) l.positions l.place);
  values : AreOutcomes (joined_at l.chain l.so_far l.later l.positions) l.place l.block.cells;
}
