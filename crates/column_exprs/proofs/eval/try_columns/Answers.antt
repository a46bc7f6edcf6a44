use Rattle.sql_exprs.specs.Forms.{form_view}
use Rattle.column_exprs.proofs.OperandLemmas.{cells_found}
use Rattle.column_exprs.proofs.eval.try_columns.Goals as goal

pub returns-clause-cells : goal.returns-clause-cells
returns-clause-cells c =
    cells_found (form_view c.args.expr.now) (record { page = c.args.page; positions = c.args.positions; whole = c.are_all-whole.result }) c.in_ok-operand.field-0 c.in-Some.operand
    c.in_ok-block.field-0 c.in-Some-2.block c.in-Some.is c.in-Some-2.is c.in_ok-operand.ensures c.in_ok-block.ensures.kind c.in_ok-block.ensures.values c.cells_fit.ensures
