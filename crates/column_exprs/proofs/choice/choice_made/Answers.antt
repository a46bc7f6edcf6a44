use Rattle.std.proofs.Common.{◌≡◌, ◌++◌, length, slice_index_or, subst}
use Rattle.std.specs.Prelude.{Option, IfSome}
use Rattle.sql_values.specs.Blocks.{TypedCells, with_cells}
use Rattle.col_pages.specs.Pages.{TypedPage}
use Rattle.sql_exprs.specs.Forms.{Form}
use Rattle.sql_exprs.specs.Meaning.{kind_of}
use Rattle.column_exprs.specs.declared.choice.Settled.{Settled}
use Rattle.column_exprs.specs.Choices.{AreSettled, operand_cells, outcome_on}
use Rattle.column_exprs.specs.Operands.{AreOutcomes}
use Rattle.column_exprs.proofs.ChoiceLemmas.{choice_made}
use Rattle.column_exprs.proofs.choice.choice_made.Goals as goal

pub returns-in-Some-2 : goal.returns-in-Some-2
returns-in-Some-2 c = λ form other.
    choice_made form other c.args.rows c.args.unsettled c.args.others.now c.args.settled c.in-Some.all c.in-Some-2.block c.requires.page
    (subst (λ (o : Option Settled). IfSome o (λ s. s.positions.items ≡ c.args.settled.positions.items ++ c.args.unsettled.positions.now)) c.in-Some.is c.in_ok-all.ensures.positions)
    (subst (λ (o : Option Settled). IfSome o (λ s. s.values ≡ with_cells c.args.settled.values (c.args.settled.values.cells ++ operand_cells c.args.others.now (length c.args.unsettled.positions.now))))
    c.in-Some.is c.in_ok-all.ensures.values)
    (subst (λ (o : Option TypedCells). IfSome o (λ b. (form : Form) (page : TypedPage) → AreSettled form page c.in-Some.all
    → (b.kind ≡ kind_of page.types form) × AreOutcomes (λ k. outcome_on form page (slice_index_or c.args.rows.positions.now k 0)) (length c.args.rows.positions.now) b.cells))
    c.in-Some-2.is c.in_ok-block.ensures)
