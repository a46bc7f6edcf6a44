use Rattle.std.proofs.Common.{◌≡◌, drop, length, map}
use Rattle.sql_exprs.specs.Forms.{Form, branch_view, call, choice, choices_of, form_view, forms_of}
use Rattle.sql_exprs.specs.Meaning.{kind_of}
use Rattle.column_exprs.specs.declared.operand.Operand.{Operand}
use Rattle.column_exprs.specs.Chains.{GoesOn, chain_name}
use Rattle.column_exprs.specs.Choices.{AreUnsettled, IsChoice}
use Rattle.column_exprs.specs.Operands.{HasCells, IsOperand, operand_kind}
use Rattle.column_exprs.proofs.parts.+parts.Given as goal

abbrev pub invariant-chain_operand-loop-arg : goal.invariant-chain_operand-loop-arg
invariant-chain_operand-loop-arg l = record {
  kind : operand_kind l.so_far ≡ l.kind;
  cells : HasCells l.so_far (length l.rows.positions.now);
  goes : (o : Operand) → GoesOn l.chain l.kind (forms_of (map form_view (drop l.arg-index l.args))) l.rows l.so_far o
      → IsOperand (call (chain_name l.chain) (forms_of (map form_view l.args))) l.rows o;
}

abbrev pub invariant-branches_taken-loop-branch : goal.invariant-branches_taken-loop-branch
invariant-branches_taken-loop-branch l = record {
  many : length l.so_far.settled.values.cells ≡ length l.so_far.settled.positions.items;
  left : AreUnsettled l.rows.page.now l.so_far.unsettled;
  chosen : (other : Form) → l.fn.kind ≡ kind_of l.rows.page.now.types other
      → IsChoice (choice (choices_of (map branch_view l.branches)) other) (choice (choices_of (map branch_view (drop l.branch-index l.branches))) other) l.rows.page.now l.so_far;
}
