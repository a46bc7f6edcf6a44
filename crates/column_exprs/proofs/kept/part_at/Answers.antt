use Rattle.std.proofs.Common.{◌<◌, ◌∙◌, ap, sym, subst, length}
use Rattle.std.specs.Prelude.{All}
use Rattle.column_exprs.specs.Operands.{operand_cell}
use Rattle.column_exprs.proofs.KeptLemmas.{kept_all, kept_within}
use Rattle.column_exprs.proofs.kept.part_at.Goals as goal

pub returns-clause-rows : goal.returns-clause-rows
returns-clause-rows c =
    let values = operand_cell c.args.operand.now in
    record {
      within =
          subst (All (λ p. p < length c.args.rows.page.now.rows)) (sym c.requires.kept)
          (kept_within c.args.test values c.args.rows.positions.now (length c.args.rows.page.now.rows) c.requires.rows.within);
      all = λ whole.
          c.requires.kept
          ∙ kept_all c.args.test values c.args.rows.positions.now (sym (ap length c.requires.kept) ∙ c.are_whole.ensures.same whole)
          ∙ c.requires.rows.all (c.are_whole.ensures.whole whole);
    }
