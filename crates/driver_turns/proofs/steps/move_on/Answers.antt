use Rattle.std.proofs.Common.{Option, Result, Bool, IsOk, [], ap, refl, subst, sym}
use Rattle.col_pages.specs.Pages.{TypedPage}
use Rattle.blocked.specs.declared.blocked_on.BlockedOn.{BlockedOn}
use Rattle.operator_core.specs.Answers.{NotMemory, gave}
use Rattle.operator_core.specs.declared.fault.OpFault.{OpFault}
use Rattle.stage_moves.specs.Quiet.{IsQuiet}
use Rattle.stage_moves.proofs.MoveLemmas.{not-memory_err}
use Rattle.driver_turns.proofs.TurnLemmas.{WorkedTo-out, WorkedTo-still}
use Rattle.driver_turns.proofs.steps.move_on.Goals as goal

pub returns-in-Err-clause-worked : goal.returns-in-Err-clause-worked
returns-in-Err-clause-worked g c = λ ok Y given.
    WorkedTo-still g.S.Operator _ _ _ _ _ Y (gave c.pass-rows.result.outcome) _ _ _ _ _ (ap gave c.in-Err.is) given
    (c.pass-rows.ensures.passed (subst NotMemory (sym c.in-Err.is) (not-memory_err (Option BlockedOn) (Option TypedPage) c.in-Err.fault ok)) Y)
    (c.pass-rows.ensures.counts (subst NotMemory (sym c.in-Err.is) (not-memory_err (Option BlockedOn) (Option TypedPage) c.in-Err.fault ok)) Y) c.pass-rows.ensures.misses

pub returns-in-Err-clause-same : goal.returns-in-Err-clause-same
returns-in-Err-clause-same g c = λ ok.
    (c.pass-rows.ensures.passed (subst NotMemory (sym c.in-Err.is) (not-memory_err (Option BlockedOn) (Option TypedPage) c.in-Err.fault ok)) []).same

pub returns-clause-worked : goal.returns-clause-worked
returns-clause-worked g c = λ _ Y given.
    WorkedTo-out g.S.Operator _ _ _ _ _ Y (gave c.pass-rows.result.outcome) _ _ _ _ _ _ (ap gave c.in-Ok.is) (c.tell.ensures.rows _ ((c.in-Ok-give.ensures).rows refl Y given))
    (c.pass-rows.ensures.passed (subst NotMemory (sym c.in-Ok.is) tt) Y) (c.pass-rows.ensures.counts (subst NotMemory (sym c.in-Ok.is) tt) Y) c.pass-rows.ensures.misses

pub returns-clause-same : goal.returns-clause-same
returns-clause-same g c = λ _. (c.pass-rows.ensures.passed (subst NotMemory (sym c.in-Ok.is) tt) []).same

pub returns-clause-quiet : goal.returns-clause-quiet
returns-clause-quiet g c = λ _ none. subst (λ (wants : Bool). IsQuiet g.S.Operator wants c.pass-rows.new.stages.items) c.wants-wants.ensures
    (c.pass-rows.ensures.quiet c.requires.room (subst (λ (r : Result (Option TypedPage) OpFault). IsOk r) (sym c.in-Ok.is) refl) none)
