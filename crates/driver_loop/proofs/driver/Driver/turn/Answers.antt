use Rattle.std.proofs.Common.{◌≡◌, ◌∙◌, None, Some, IsErr, ap, false, refl, subst, sym}
use Rattle.operator_core.specs.Answers.{NotMemory}
use Rattle.driver_turns.specs.declared.turns.Turned.{Turned}
use Rattle.driver_loop.specs.Drivers.{DriverState, IsWhole}
use Rattle.driver_loop.proofs.DriverLemmas.{driver_over, driver_turned, expr_fault, going_on, in_ok, not_memory, not_none, room_stays, whole, worked}
use Rattle.driver_loop.proofs.TargetLemmas.{built_on}
use Rattle.driver_loop.proofs.driver.Driver.turn.Goals as goal

pub invariant_of-self : goal.invariant_of-self
invariant_of-self g c =
    let going : c.self.inside.is_finished ≡ false = ap (λ (d : DriverState). d.is_finished) c.self.view_is ∙ c.requires.running.0 in
    let unfailed : c.self.inside.fault ≡ None = ap (λ (d : DriverState). d.fault) c.self.view_is ∙ c.requires.running.1 in
    let answer = in_ok _ _ _ _ c.in-Ok-Yield.is c.in-Ok-Yield.field-0-is c.take_turn-turning.ensures.answer in
    record {
      driver = driver_turned _ _ c.take_turn-turning.result.units c.self.invariant.driver (whole _ unfailed) (λ _ Y given. c.take_turn-turning.ensures.worked (subst NotMemory (sym c.in-Ok-Yield.is) tt) Y given)
          (λ _. c.take_turn-turning.ensures.told (subst NotMemory (sym c.in-Ok-Yield.is) tt)) c.work_after-self-inside.ensures
          (going_on _ _ going) (not_none _ _ unfailed);
      built = λ w. built_on _ _ _ _ c.take_turn-turning.ensures.ends (c.take_turn-turning.ensures.target (subst NotMemory (sym c.in-Ok-Yield.is) tt)) (answer.2 ∙ sym going) (c.self.invariant.built w);
      none = c.self.invariant.none;
      room = λ w. room_stays _ _ _ _ _ (c.take_turn-turning.ensures.later (subst NotMemory (sym c.in-Ok-Yield.is) tt)) (c.take_turn-turning.ensures.target (subst NotMemory (sym c.in-Ok-Yield.is) tt)) (c.self.invariant.room w);
    }

pub invariant_of-self-in-Ok-Blocked : goal.invariant_of-self-in-Ok-Blocked
invariant_of-self-in-Ok-Blocked g c =
    let going : c.self.inside.is_finished ≡ false = ap (λ (d : DriverState). d.is_finished) c.self.view_is ∙ c.requires.running.0 in
    let unfailed : c.self.inside.fault ≡ None = ap (λ (d : DriverState). d.fault) c.self.view_is ∙ c.requires.running.1 in
    let answer = in_ok _ _ _ _ c.in-Ok-Blocked.is c.in-Ok-Blocked.field-0-is c.take_turn-turning.ensures.answer in
    record {
      driver = driver_turned _ _ c.take_turn-turning.result.units c.self.invariant.driver (whole _ unfailed) (λ _ Y given. c.take_turn-turning.ensures.worked (subst NotMemory (sym c.in-Ok-Blocked.is) tt) Y given)
          (λ _. c.take_turn-turning.ensures.told (subst NotMemory (sym c.in-Ok-Blocked.is) tt)) c.work_after-self-inside.ensures
          (going_on _ _ going) (not_none _ _ unfailed);
      built = λ w. built_on _ _ _ _ c.take_turn-turning.ensures.ends (c.take_turn-turning.ensures.target (subst NotMemory (sym c.in-Ok-Blocked.is) tt)) (answer.1 ∙ sym going) (c.self.invariant.built w);
      none = c.self.invariant.none;
      room = λ w. room_stays _ _ _ _ _ (c.take_turn-turning.ensures.later (subst NotMemory (sym c.in-Ok-Blocked.is) tt)) (c.take_turn-turning.ensures.target (subst NotMemory (sym c.in-Ok-Blocked.is) tt)) (c.self.invariant.room w);
    }

pub invariant_of-self-in-Ok-Finished : goal.invariant_of-self-in-Ok-Finished
invariant_of-self-in-Ok-Finished g c =
    let unfailed : c.self.inside.fault ≡ None = ap (λ (d : DriverState). d.fault) c.self.view_is ∙ c.requires.running.1 in
    let answer = in_ok _ _ _ _ c.in-Ok-Finished.is c.in-Ok-Finished.field-0-is c.take_turn-turning.ensures.answer in
    let told = in_ok _ _ _ _ c.in-Ok-Finished.is c.in-Ok-Finished.field-0-is c.take_turn-turning.ensures.finished refl in
    let over = c.take_turn-turning.ensures.told (subst NotMemory (sym c.in-Ok-Finished.is) tt) (c.self.invariant.driver.goes.told (whole _ unfailed)) told in
    record {
      driver = driver_turned _ _ c.take_turn-turning.result.units c.self.invariant.driver (whole _ unfailed) (λ _ Y given. c.take_turn-turning.ensures.worked (subst NotMemory (sym c.in-Ok-Finished.is) tt) Y given)
          (λ _. c.take_turn-turning.ensures.told (subst NotMemory (sym c.in-Ok-Finished.is) tt)) c.work_after-self-inside.ensures
          (λ _. (unfailed, over)) (not_none _ _ unfailed);
      built = λ w. built_on _ _ _ _ c.take_turn-turning.ensures.ends (c.take_turn-turning.ensures.target (subst NotMemory (sym c.in-Ok-Finished.is) tt)) answer (c.self.invariant.built w);
      none = c.self.invariant.none;
      room = λ w. room_stays _ _ _ _ _ (c.take_turn-turning.ensures.later (subst NotMemory (sym c.in-Ok-Finished.is) tt)) (c.take_turn-turning.ensures.target (subst NotMemory (sym c.in-Ok-Finished.is) tt)) (c.self.invariant.room w);
    }

pub invariant_of-self-in-Err : goal.invariant_of-self-in-Err
invariant_of-self-in-Err g c =
    let going : c.self.inside.is_finished ≡ false = ap (λ (d : DriverState). d.is_finished) c.self.view_is ∙ c.requires.running.0 in
    let unfailed : c.self.inside.fault ≡ None = ap (λ (d : DriverState). d.fault) c.self.view_is ∙ c.requires.running.1 in
    let enough : IsWhole c.keep_fault.new.kept → NotMemory c.take_turn-turning.result.outcome
    = λ w. subst NotMemory (sym c.in-Err.is) (not_memory Turned c.in-Err.fault (subst (λ f. IsWhole (Some f)) c.keep_fault.ensures.fault (subst IsWhole c.keep_fault.ensures.kept w))) in
    record {
      driver = driver_turned _ _ c.take_turn-turning.result.units c.self.invariant.driver (whole _ unfailed) (λ w Y given. c.take_turn-turning.ensures.worked (enough w) Y given)
          (λ w. c.take_turn-turning.ensures.told (enough w)) c.work_after-self-inside.ensures
          (going_on _ _ going) (λ node kind is. c.take_turn-turning.ensures.fault node kind (c.in-Err.is ∙ expr_fault c.in-Err.fault c.keep_fault.result node kind c.keep_fault.ensures.fault (sym c.keep_fault.ensures.kept ∙ is)));
      built = λ w. built_on _ _ _ _ c.take_turn-turning.ensures.ends (c.take_turn-turning.ensures.target (enough w))
          (c.take_turn-turning.ensures.unfinished (subst IsErr (sym c.in-Err.is) refl) (enough w) ∙ sym going) (c.self.invariant.built (whole _ unfailed));
      none = c.self.invariant.none;
      room = λ w. room_stays _ _ _ _ _ (c.take_turn-turning.ensures.later (enough w)) (c.take_turn-turning.ensures.target (enough w)) (c.self.invariant.room (whole _ unfailed));
    }

pub returns-in-Ok-Finished-clause-over : goal.returns-in-Ok-Finished-clause-over
returns-in-Ok-Finished-clause-over g c = λ _.
    let unfailed : c.self.inside.fault ≡ None = ap (λ (d : DriverState). d.fault) c.self.view_is ∙ c.requires.running.1 in
    let told = in_ok _ _ _ _ c.in-Ok-Finished.is c.in-Ok-Finished.field-0-is c.take_turn-turning.ensures.finished refl in
    let over = c.take_turn-turning.ensures.told (subst NotMemory (sym c.in-Ok-Finished.is) tt) (c.self.invariant.driver.goes.told (whole _ unfailed)) told in
    driver_over c.laws.ensures _
    (driver_turned _ _ c.take_turn-turning.result.units c.self.invariant.driver (whole _ unfailed) (λ _ Y given. c.take_turn-turning.ensures.worked (subst NotMemory (sym c.in-Ok-Finished.is) tt) Y given)
    (λ _. c.take_turn-turning.ensures.told (subst NotMemory (sym c.in-Ok-Finished.is) tt)) c.work_after-self-inside.ensures
    (λ _. (unfailed, over)) (not_none _ _ unfailed)) refl

pub returns-in-Ok-Yield-clause-worked : goal.returns-in-Ok-Yield-clause-worked
returns-in-Ok-Yield-clause-worked g c = λ _. worked _ _ _ _ c.self.view_is c.self.invariant.driver (whole _ (ap (λ (d : DriverState). d.fault) c.self.view_is ∙ c.requires.running.1)) (λ Y given. c.take_turn-turning.ensures.worked (subst NotMemory (sym c.in-Ok-Yield.is) tt) Y given) c.work_after-self-inside.ensures

pub returns-in-Ok-Blocked-clause-worked : goal.returns-in-Ok-Blocked-clause-worked
returns-in-Ok-Blocked-clause-worked g c = λ _. worked _ _ _ _ c.self.view_is c.self.invariant.driver (whole _ (ap (λ (d : DriverState). d.fault) c.self.view_is ∙ c.requires.running.1)) (λ Y given. c.take_turn-turning.ensures.worked (subst NotMemory (sym c.in-Ok-Blocked.is) tt) Y given) c.work_after-self-inside.ensures

pub returns-in-Ok-Finished-clause-worked : goal.returns-in-Ok-Finished-clause-worked
returns-in-Ok-Finished-clause-worked g c = λ _. worked _ _ _ _ c.self.view_is c.self.invariant.driver (whole _ (ap (λ (d : DriverState). d.fault) c.self.view_is ∙ c.requires.running.1)) (λ Y given. c.take_turn-turning.ensures.worked (subst NotMemory (sym c.in-Ok-Finished.is) tt) Y given) c.work_after-self-inside.ensures

pub returns-in-Err-clause-worked : goal.returns-in-Err-clause-worked
returns-in-Err-clause-worked g c = λ w. worked _ _ _ _ c.self.view_is c.self.invariant.driver (whole _ (ap (λ (d : DriverState). d.fault) c.self.view_is ∙ c.requires.running.1))
    (λ Y given. c.take_turn-turning.ensures.worked (subst NotMemory (sym c.in-Err.is) (not_memory Turned c.in-Err.fault (subst (λ f. IsWhole (Some f)) c.keep_fault.ensures.fault (subst IsWhole c.keep_fault.ensures.kept w)))) Y given) c.work_after-self-inside.ensures
