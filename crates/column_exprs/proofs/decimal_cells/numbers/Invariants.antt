use Rattle.std.proofs.Common.{map}
use Rattle.sql_values.specs.declared.value.Value.TheVariants.{Decimal}
use Rattle.sql_values.specs.Blocks.{or_null}
use Rattle.column_exprs.specs.Operands.{AreOutcomes, binary_at}
use Rattle.column_exprs.proofs.decimal_cells.numbers.Given as goal

abbrev pub invariant-loop-place : goal.invariant-loop-place
invariant-loop-place l = AreOutcomes (binary_at l.name l.left l.right) l.place (map (or_null Decimal) l.numbers)
