use Rattle.std.proofs.Common.{◌∙◌, ap}
use Rattle.sql_values.specs.Blocks.{TypedCells}
use Rattle.column_exprs.specs.Operands.{cast_at}
use Rattle.column_exprs.proofs.OperandLemmas.{cast_here, pushed}
use Rattle.column_exprs.proofs.strict.cast_cells.Goals as goal

pub loop-place-preserved : goal.loop-place-preserved
loop-place-preserved c =
    let w = c.in_ok-push_cast.ensures c.if-not-branch.false in
    record {
      kind = ap (λ (b : TypedCells). b.kind) w.2 ∙ c.loop-place.invariant.kind;
      values =
          pushed (cast_at c.args.kind c.args.arg.now) c.loop-place.place c.loop-place.block c.push_cast.new.block w.0 c.loop-place.invariant.values
          (cast_here c.args.kind c.args.arg.now c.loop-place.place _ _ w.0 c.kind-from.ensures c.cell-value.ensures w.1) w.2;
    }
