use Rattle.std.proofs.Common.{◌≡◌, length, subst}
use Rattle.std.specs.Prelude.{Option, IfSome}
use Rattle.sql_values.specs.Blocks.{TypedCells}
use Rattle.column_exprs.specs.Chains.{joined_at}
use Rattle.column_exprs.specs.Operands.{AreOutcomes}
use Rattle.column_exprs.proofs.ChainLemmas.{joined_made}
use Rattle.column_exprs.proofs.chain.joined_made.Goals as goal

pub returns-in-Some : goal.returns-in-Some
returns-in-Some c =
    joined_made c.args.chain c.args.kind c.args.rows c.args.part c.args.so_far.now c.args.later.now c.in-Some.block c.requires.part
    (subst (λ (o : Option TypedCells). IfSome o (λ b. b.kind ≡ c.args.kind)) c.in-Some.is c.in_ok-block.ensures.kind)
    (subst (λ (o : Option TypedCells). IfSome o (λ b. AreOutcomes (joined_at c.args.chain c.args.so_far.now c.args.later.now c.args.rows.positions.now) (length c.args.rows.positions.now) b.cells))
    c.in-Some.is c.in_ok-block.ensures.values)
