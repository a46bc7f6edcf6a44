use Rattle.std.proofs.Common.{refl}
use Rattle.driver_turns.proofs.TurnLemmas.{WentOn-came}
use Rattle.driver_turns.proofs.looks.look_ahead.Goals as goal

pub returns-in-Now-clause-went : goal.returns-in-Now-clause-went
returns-in-Now-clause-went g c = λ _ Y. WentOn-came g.S.Operator _ _ _ _ Y _ _ ((c.in-Ok.ensures).taken refl) ((c.in-Ok.ensures).ended refl)
    ((c.in-Ok-look_at_stages.ensures).went refl _ Y _)

pub returns-in-Missed-clause-went : goal.returns-in-Missed-clause-went
returns-in-Missed-clause-went g c = λ _ Y. WentOn-came g.S.Operator _ _ _ _ Y _ _ ((c.in-Ok.ensures).taken refl) ((c.in-Ok.ensures).ended refl)
    ((c.in-Ok-look_at_stages.ensures).went refl _ Y _)

pub returns-in-Blocked-clause-went : goal.returns-in-Blocked-clause-went
returns-in-Blocked-clause-went g c = λ _ Y. WentOn-came g.S.Operator _ _ _ _ Y _ _ ((c.in-Ok.ensures).taken refl) ((c.in-Ok.ensures).ended refl)
    ((c.in-Ok-look_at_stages.ensures).went refl _ Y _)
