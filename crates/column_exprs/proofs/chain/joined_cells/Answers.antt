use Rattle.std.proofs.Common.{◌∙◌, ap, arith}
use Rattle.sql_values.specs.Blocks.{TypedCells}
use Rattle.column_exprs.specs.Chains.{chain_test, joined_at}
use Rattle.column_exprs.specs.Kept.{meets}
use Rattle.column_exprs.specs.Operands.{operand_cell}
use Rattle.column_exprs.proofs.ChainLemmas.{joined_here}
use Rattle.column_exprs.proofs.KeptLemmas.{counted_on, kept_few, place_kept}
use Rattle.column_exprs.proofs.OperandLemmas.{pushed}
use Rattle.column_exprs.proofs.chain.joined_cells.Goals as goal

pub push_joined-requires : goal.push_joined-requires
push_joined-requires c =
    place_kept (chain_test c.args.chain) (operand_cell c.args.so_far.now) c.args.positions.now c.args.later.now c.loop-place.place c.loop-place.next _ c.requires.later c.loop-place-test.true
    c.cell-value.ensures c.loop-place.invariant.next

pub counted-next-requires : goal.counted-next-requires
counted-next-requires c =
    omega (arith, c.loop-place-test.true, c.loop-place.invariant.next, kept_few (chain_test c.args.chain) (operand_cell c.args.so_far.now) c.args.positions.now c.loop-place.place)

pub loop-place-preserved : goal.loop-place-preserved
loop-place-preserved c =
    let w = c.in_ok-push_joined.ensures c.if-not-branch.false in
    record {
      kind = ap (λ (b : TypedCells). b.kind) w.2 ∙ c.loop-place.invariant.kind;
      next =
          counted_on (chain_test c.args.chain) (operand_cell c.args.so_far.now) c.args.positions.now c.loop-place.place c.loop-place.next _ _ (c.needs.ensures ∙ ap (meets (chain_test c.args.chain)) c.cell-value.ensures)
          c.loop-place.invariant.next c.counted-next.ensures.more c.counted-next.ensures.same;
      values =
          pushed (joined_at c.args.chain c.args.so_far.now c.args.later.now c.args.positions.now) c.loop-place.place c.loop-place.block c.push_joined.new.block w.0 c.loop-place.invariant.values
          (joined_here c.args.chain c.args.so_far.now c.args.later.now c.args.positions.now c.loop-place.place c.loop-place.next _ w.0 c.cell-value.ensures c.loop-place.invariant.next w.1) w.2;
    }
