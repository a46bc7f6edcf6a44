use Rattle.std.proofs.Common.{◌≡◌, ◌++◌, length, subst}
use Rattle.std.specs.Prelude.{Option, IfSome}
use Rattle.sql_values.specs.Blocks.{with_cells}
use Rattle.column_exprs.specs.declared.choice.Settled.{Settled}
use Rattle.column_exprs.specs.Choices.{operand_cells}
use Rattle.column_exprs.proofs.ChoiceLemmas.{branch_made}
use Rattle.column_exprs.proofs.choice.branch_made.Goals as goal

pub returns-in-Some : goal.returns-in-Some
returns-in-Some c =
    branch_made c.args.rows c.args.part c.args.tests.now c.args.results.now c.args.settled c.in-Some.settled c.in_ok-unsettled.unsettled c.requires.part
    (subst (λ (o : Option Settled). IfSome o (λ s. s.positions.items ≡ c.args.settled.positions.items ++ c.args.part.positions.now)) c.in-Some.is c.in_ok-settled.ensures.positions)
    (subst (λ (o : Option Settled). IfSome o (λ s. s.values ≡ with_cells c.args.settled.values (c.args.settled.values.cells ++ operand_cells c.args.results.now (length c.args.part.positions.now))))
    c.in-Some.is c.in_ok-settled.ensures.values)
    c.in_ok-unsettled.ensures.rows c.in_ok-unsettled.ensures.kept
