use Rattle.std.proofs.Common.{refl, sym, ◌∙◌}
use Rattle.stage_moves.proofs.PlaceLemmas.{AllLater-same}
use Rattle.driver_turns.proofs.TurnLemmas.{WorkedTo-none, RangDues-step, all-told, none-untold}
use Rattle.driver_turns.proofs.steps.take_step.Goals as goal

pub returns-in-Ok-clause-worked : goal.returns-in-Ok-clause-worked
returns-in-Ok-clause-worked g c = λ _ Y given. WorkedTo-none g.S.Operator _ _ _ Y _ _ ((c.in-Ok.ensures).rows refl Y given)

pub returns-in-Ok-clause-later : goal.returns-in-Ok-clause-later
returns-in-Ok-clause-later g c = λ _. AllLater-same g.S.Operator _

pub returns-in-Ok-clause-told : goal.returns-in-Ok-clause-told
returns-in-Ok-clause-told g c = λ _ was told. was (sym ((c.in-Ok.ensures).told refl) ∙ told)

pub returns-in-Ok-clause-rang : goal.returns-in-Ok-clause-rang
returns-in-Ok-clause-rang g c = λ _. RangDues-step (g.B.Bells.rang c.args.bells.now) (g.B.Bells.rang c.args.bells.now) (g.B.Bells.rang c.ready.new.bells)
    (g.I.PageSource.dues c.args.source.now) (g.I.PageSource.dues c.args.source.now) (g.I.PageSource.dues c.args.source.now)
    (g.T.PageTarget.dues c.args.target.now) (g.T.PageTarget.dues c.args.target.now) (g.T.PageTarget.dues c.ready.new.self)
    (λ bell times rang. rang) ((c.in-Ok.ensures).rang refl) (λ bell. refl) (λ bell. refl)

pub returns-then-not-is_told-clause-quiet : goal.returns-then-not-is_told-clause-quiet
returns-then-not-is_told-clause-quiet g c = all-told _ _ _ c.work.ensures.quiet

pub returns-in-Ok-clause-quiet : goal.returns-in-Ok-clause-quiet
returns-in-Ok-clause-quiet g c = none-untold _ c.in-Ok.full _ ((c.in-Ok.ensures).told refl ∙ sym c.if-not-is_told.ensures)
