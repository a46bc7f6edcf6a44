use Rattle.std.proofs.Common.{sym}
use Rattle.sql_values.specs.declared.value.Value.TheVariants.{Decimal}
use Rattle.sql_values.specs.Blocks.{or_null}
use Rattle.column_exprs.specs.Operands.{binary_at}
use Rattle.column_exprs.proofs.OperandLemmas.{binary_here, number_pushed}
use Rattle.column_exprs.proofs.decimal_cells.numbers.Goals as goal

pub loop-place-preserved : goal.loop-place-preserved
loop-place-preserved c =
    number_pushed (or_null Decimal) (binary_at c.args.name c.args.left.now c.args.right.now) c.loop-place.place c.loop-place.numbers c.push.new.self c.in-Some.number c.loop-place.invariant
    (binary_here c.args.name c.args.left.now c.args.right.now c.loop-place.place _ _ _ _ (or_null Decimal c.in-Some.number) (sym c.requires.left_kind) (sym c.requires.right_kind) c.cell-a.ensures c.cell-b.ensures c.in-Some.ensures)
    c.in_ok-push-in-Some.ensures.ok
