use Rattle.std.proofs.Common.{refl, sym, ◌∙◌}
use Rattle.stage_moves.proofs.PassLemmas.{Passed-still, not-ended}
use Rattle.stage_moves.proofs.one_pass.take_page.Goals as goal

pub returns-then-is_ended-clause-passed : goal.returns-then-is_ended-clause-passed
returns-then-is_ended-clause-passed g c = λ _ Y. Passed-still g.S.Operator _ _ _ Y _ _ refl (λ e. e)

pub returns-in-Ok-None-clause-passed : goal.returns-in-Ok-None-clause-passed
returns-in-Ok-None-clause-passed g c =
    let came = rw c.in-Ok-None.field-0-is at (c.in-Ok-None.ensures).page in
    λ _ Y. Passed-still g.S.Operator _ _ _ Y _ _ came (not-ended _ _ (sym c.is_ended.ensures ∙ c.if-is_ended.false))
