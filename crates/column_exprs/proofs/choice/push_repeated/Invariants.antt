use Rattle.std.proofs.Common.{◌≡◌, ◌++◌, replicate}
use Rattle.sql_values.specs.Blocks.{with_cells}
use Rattle.sql_values.specs.Cells.{lent_value}
use Rattle.column_exprs.proofs.choice.push_repeated.Given as goal

abbrev pub invariant-loop-place : goal.invariant-loop-place
invariant-loop-place l = l.block ≡ with_cells l.fn.block (l.fn.block.cells ++ replicate l._place (lent_value l.value))
