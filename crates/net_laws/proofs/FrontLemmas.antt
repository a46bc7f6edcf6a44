-- The stages of a driver, cut in front of those for the steps of its pipe.
use Rattle.std.proofs.Common.{◌≡◌, ◌-◌, ℕ, List, [], ◌∷◌, ◌++◌, Bool, true, Option, None, length, ap, sym, subst, ◌∙◌}
use Rattle.std.specs.Prelude.{Contains}
use Rattle.std.proofs.lemmas.List.{take-append-drop}
use Rattle.std.proofs.lemmas.List.Elements.{Contains-append_left, Contains-append_right}
use Rattle.operator_core.specs.Rows.{Row}
use Rattle.operator_core.specs.Calls.{IsLawful}
use Rattle.operator_core.specs.Stages.{Linked, ToldInTurn, last_finished}
use Rattle.operator_core.proofs.StageLemmas.{finished-told}
use Rattle.driver_loop.specs.Drivers.{DriverState, IsDriverTo, IsWhole}
use Rattle.driver_loop.specs.Ends.{rows_taken}
use Rattle.driver_loop.specs.contracts.stage.StageOperator.TheImpl.{ghosts}
use Rattle.driver_loop.specs.declared.stage.Stage.{Stage}
use Rattle.plan_layout.specs.Filters.{filters_of_scan}
use Rattle.plan_layout.specs.Pipes.{PipeForm, StepForm}
use Rattle.sieve_laws.proofs.SplitLemmas.{finished_both, linked_both, told_both}
use Rattle.driver_net_laws.specs.Nets.{AreInFront, IsDriverOf, NetForm, front_stages, step_stages}
use Rattle.driver_net_laws.specs.States.{CameThrough}

pub cut : (steps : List StepForm) (stages : List Stage) → stages ≡ front_stages steps stages ++ step_stages steps stages
cut steps stages = sym (take-append-drop (length stages - length steps) stages)

pub behind : (steps : List StepForm) (stages : List Stage) (s : Stage) → Contains (step_stages steps stages) s → Contains stages s
behind steps stages s there =
    subst (λ (all : List Stage). Contains all s) (sym (cut steps stages)) (Contains-append_right (front_stages steps stages) (step_stages steps stages) s there)

pub in_front : (steps : List StepForm) (stages : List Stage) (s : Stage) → Contains (front_stages steps stages) s → Contains stages s
in_front steps stages s there =
    subst (λ (all : List Stage). Contains all s) (sym (cut steps stages))
    (Contains-append_left (front_stages steps stages) (step_stages steps stages) s there)

-- what a driver took of its source came through the first stages to the others
pub came_through : (steps : List StepForm) (d : DriverState) (given : List Row) → IsWhole d.fault → IsDriverTo d given → (came : List Row) × CameThrough steps d came given
came_through steps d given whole goes =
    let first = front_stages steps d.stages in
    let rest = step_stages steps d.stages in
    let l = linked_both ghosts first rest (rows_taken d.source) given (subst (λ (ss : List Stage). Linked ghosts ss (rows_taken d.source) given) (cut steps d.stages) (goes.links whole)) in
    (l.0, record { front = l.1; rest = l.2 })

-- those behind were told in turn, and the last of them is that of all
pub told_behind : (steps : List StepForm) (stages : List Stage) (over : Bool) → ToldInTurn ghosts over stages
    → ToldInTurn ghosts (last_finished ghosts over (front_stages steps stages)) (step_stages steps stages)
told_behind steps stages over turns =
    (told_both ghosts (front_stages steps stages) (step_stages steps stages) over (subst (ToldInTurn ghosts over) (cut steps stages) turns)).1

pub done_behind : (steps : List StepForm) (stages : List Stage) (over : Bool)
    → last_finished ghosts (last_finished ghosts over (front_stages steps stages)) (step_stages steps stages) ≡ last_finished ghosts over stages
done_behind steps stages over =
    sym (finished_both ghosts (front_stages steps stages) (step_stages steps stages) over) ∙ ap (last_finished ghosts over) (sym (cut steps stages))

module _ (laws : IsLawful ghosts) where
  ended_before : (stages : List Stage) (over : Bool) → ToldInTurn ghosts over stages → last_finished ghosts over stages ≡ true → over ≡ true
  ended_before [] over turns done = done
  ended_before (s ∷ stages) over turns done = turns.0 (finished-told ghosts laws s (ended_before stages (ghosts.is_finished s) turns.1 done))

  -- where the last stage is finished, so are those in front
  pub front_finished : (steps : List StepForm) (stages : List Stage) (over : Bool) → ToldInTurn ghosts over stages → last_finished ghosts over stages ≡ true
      → last_finished ghosts over (front_stages steps stages) ≡ true
  front_finished steps stages over turns done =
      ended_before (step_stages steps stages) (last_finished ghosts over (front_stages steps stages)) (told_behind steps stages over turns) (done_behind steps stages over ∙ done)

-- a pipe of no scan has no dynamic filter: the stages of its drivers are those for its steps
module _ (net : NetForm) (at : ℕ) (pipe : PipeForm) (task lane : ℕ) (d : DriverState) (is : IsDriverOf net at pipe task lane d)
    (unread : pipe.scan ≡ None) where
  pub none_in_front : front_stages pipe.steps d.stages ≡ []
  none_in_front =
      subst (λ (scan : Option ℕ). AreInFront net (net.types at).taken (filters_of_scan net.layout scan) (front_stages pipe.steps d.stages)) unread is.front
