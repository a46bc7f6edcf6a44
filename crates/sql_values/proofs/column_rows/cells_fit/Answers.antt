use Rattle.std.proofs.Common.{arith}
use Rattle.sql_values.proofs.FitLemmas.{columns_more, columns_all}
use Rattle.sql_values.proofs.column_rows.cells_fit.Goals as goal

pub loop-column-preserved : goal.loop-column-preserved
loop-column-preserved c = columns_more c.args.columns.now c.loop-column.column-index c.column-item.result (omega arith) c.column-item.is c.loop-column.invariant c.cells_fit.ensures

pub returns : goal.returns
returns c = columns_all c.args.columns.now c.loop-column.column-index (omega arith) c.loop-column.invariant
