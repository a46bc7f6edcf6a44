use Rattle.std.proofs.Common.{◌≡◌}
use Rattle.sql_exprs.specs.Forms.{column, form_view}
use Rattle.sql_exprs.proofs.ColumnLemmas.{found}
use Rattle.sql_exprs.proofs.page.whole_column.Goals as goal

pub returns-clause-cells : goal.returns-clause-cells
returns-clause-cells c =
    found c.args.page.now.types c.args.page.now.rows (form_view c.args.expr.now) c.in-Some.column c.args.positions.now c.len.result c.kind_of.result c.column.result
    c.in-Some.ensures c.rows_fit.ensures (c.are_all.ensures c.if-not-are_all.false) c.len.ensures.len c.column.ensures.cells
