use Rattle.std.proofs.Common.{◌∙◌, ap}
use Rattle.sql_values.specs.Blocks.{TypedCells}
use Rattle.column_exprs.specs.Operands.{binary_at}
use Rattle.column_exprs.proofs.OperandLemmas.{binary_here, pushed}
use Rattle.column_exprs.proofs.strict.binary_cells.Goals as goal

pub loop-place-preserved : goal.loop-place-preserved
loop-place-preserved c =
    let w = c.in_ok-push_binary.ensures c.if-not-branch.false in
    record {
      kind = ap (λ (b : TypedCells). b.kind) w.2 ∙ c.loop-place.invariant.kind;
      values =
          pushed (binary_at c.args.name c.args.left.now c.args.right.now) c.loop-place.place c.loop-place.block c.push_binary.new.block w.0 c.loop-place.invariant.values
          (binary_here c.args.name c.args.left.now c.args.right.now c.loop-place.place _ _ _ _ w.0 c.kind-left_kind.ensures c.kind-right_kind.ensures c.cell-a.ensures c.cell-b.ensures w.1) w.2;
    }
