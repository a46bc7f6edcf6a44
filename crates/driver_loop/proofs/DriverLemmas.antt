-- What a driver keeps over its turns, and what follows from it.
use Rattle.std.proofs.Common.{◌≡◌, ◌⊎◌, inl, inr, ◌+◌, ◌<◌, ◌≤◌, ℕ, min, List, [], ◌∷◌, Bool, true, false, Option, Some, None, Result, Ok, Err, length, map, refl, sym, subst, ◌∙◌, arith}
use Rattle.std.specs.Prelude.{IfOk}
use Rattle.sql_values.specs.declared.fail.Fail.{Fail}
use Rattle.operator_core.specs.Answers.{NotMemory}
use Rattle.operator_core.specs.Calls.{IsLawful}
use Rattle.operator_core.specs.declared.fault.OpFault.{OpFault}
use Rattle.operator_core.specs.declared.fault.OpFault.TheVariants.{Expr}
use Rattle.operator_core.specs.declared.fault.OpFault.TheVariants as op
use Rattle.operator_core.specs.Rows.{Row}
use Rattle.operator_core.specs.Stages.{last_finished}
use Rattle.operator_core.proofs.ChainLemmas.{finished, could_go_on, failure}
use Rattle.operator_core.proofs.LinkLemmas.{Linked-made}
use Rattle.operator_core.proofs.StageLemmas.{Steps-made}
use Rattle.operator_core.proofs.TurnLemmas.{Turns-made}
use Rattle.count_laws.specs.Counts.{most_count}
use Rattle.stage_moves.specs.Counts.{LinkedBy}
use Rattle.stage_moves.specs.Moves.{SomeFails}
use Rattle.stage_moves.specs.Places.{AllLater, IsLater}
use Rattle.stage_moves.proofs.PlaceLemmas.{each-length}
use Rattle.driver_loop.specs.declared.run_fault.RunFault.{RunFault}
use Rattle.driver_loop.specs.declared.run_fault.RunFault.TheVariants.{ExprFailed}
use Rattle.driver_loop.specs.declared.run_fault.RunFault.TheVariants as run
use Rattle.driver_turns.specs.declared.turns.Turned.{Turned}
use Rattle.driver_loop.specs.declared.stage.Stage.{Stage}
use Rattle.driver_loop.specs.contracts.stage.StageOperator.TheImpl.{ghosts}
use Rattle.driver_loop.specs.Faults.{run_fault}
use Rattle.driver_loop.specs.declared.notes.NoteLists.{NoteLists}
use Rattle.driver_loop.specs.declared.target.Target.{Target}
use Rattle.driver_loop.specs.Ends.{rows_taken, has_ended, is_told, source_misses, target_made_or_lost, was_given}
use Rattle.driver_loop.specs.Drivers.{DriverState, IsWhole, IsDriver, IsOver, HasFailed, HasWorked, CanGoOn, WorkedFrom}
use Rattle.driver_loop.specs.Turns.{HaveRoomFor, filters_of}
use Rattle.driver_loop.proofs.TargetLemmas.{filters_stay}

pub whole : (fault : Option RunFault) → fault ≡ None → IsWhole fault
whole fault e = subst IsWhole (sym e) tt

failed_whole : (fault : Option RunFault) (node : ℕ) (kind : Fail) → fault ≡ Some (ExprFailed node kind) → IsWhole fault
failed_whole fault node kind e = subst IsWhole (sym e) tt

-- a driver of parts as they were made
entered_none : IsLawful ghosts → (stages : List Stage) → map ghosts.as_made stages ≡ stages → LinkedBy ghosts stages [] [] 0
entered_none laws [] e = (refl, refl)
entered_none laws (s ∷ stages) e = ([], 0, Steps-made ghosts laws s (cc), entered_none laws stages (cc), omega arith)

pub driver_new : IsLawful ghosts → (d : DriverState) → rows_taken d.source ≡ [] → map ghosts.as_made d.stages ≡ d.stages → was_given d.target []
    → is_told d.target ≡ false → d.work ≡ 0 → d.is_finished ≡ false → d.fault ≡ None → IsDriver d
driver_new laws d taken made given untold none going unfailed = record {
  rows = [];
  given = λ w. given;
  goes = record {
    links = λ w. rw taken (Linked-made ghosts laws d.stages made);
    turns = λ w. Turns-made ghosts laws (has_ended d.source) d.stages made;
    told = λ w told. absurd (let clash : false ≡ true = sym untold ∙ told in cc);
    counts = λ w. record { rows = 0; asks = 0; entered = rw taken (entered_none laws d.stages made); within = λ low. omega arith; work = omega (arith, none) };
    over = λ f. cc;
    failed = λ node kind f. cc;
  };
}

-- what holds of how a turn ended holds of this end
pub in_ok : (r : Result Turned OpFault) (turned end : Turned) (P : Turned → Type 0) → r ≡ Ok turned → turned ≡ end → IfOk r P → P end
in_ok r turned end P is same h =
    let this : P turned = subst (λ (r : Result Turned OpFault). IfOk r P) is h in
    subst P same this

pub not_none : (fault : Option RunFault) (fails : ℕ → Fail → Type 0) → fault ≡ None → (node : ℕ) (kind : Fail) → fault ≡ Some (ExprFailed node kind) → fails node kind
not_none fault fails none node kind some = absurd (let clash : None ≡ Some (ExprFailed node kind) = sym none ∙ some in cc)

pub going_on : (is_finished : Bool) (over : Type 0) → is_finished ≡ false → is_finished ≡ true → over
going_on is_finished over going ended = absurd (let clash : false ≡ true = sym going ∙ ended in cc)

-- a fault that is reported as one of an expression is that
pub expr_fault : (fault : OpFault) (told : RunFault) (node : ℕ) (kind : Fail) → told ≡ run_fault fault → Some told ≡ Some (ExprFailed node kind)
    → ◌≡◌ {A = Result Turned OpFault} (Err fault) (Err (Expr node kind))
expr_fault (Expr at why) told node kind is same =
    let e : ExprFailed at why ≡ ExprFailed node kind = sym is ∙ (let t : told ≡ ExprFailed node kind = cc in t) in cc
expr_fault op.Memory told node kind is same = absurd (let e : run.Memory ≡ ExprFailed node kind = sym is ∙ (let t : told ≡ ExprFailed node kind = cc in t) in cc)

-- the count after a turn
counted : (old units work rows asks entered again : ℕ) → old ≡ min (rows + asks) most_count → units ≡ entered + again → work ≡ min (old + units) most_count → work ≡ min (rows + entered + (asks + again)) most_count
counted old units work rows asks entered again before are now = omega (arith, before, are, now)

-- asks in vain, those of a turn too, are no more than the source counted
asked : (asks again missed misses : ℕ) → (missed < most_count → asks ≤ missed) → (misses < most_count → missed + again ≤ misses) → misses < most_count → asks + again ≤ misses
asked asks again missed misses before now low =
    let more : missed + again ≤ misses = now low in
    let few : asks ≤ missed = before (omega (arith, more, low)) in
    omega (arith, more, few)

pub worked : (d now e : DriverState) (units : ℕ) → d ≡ now → IsDriver d → IsWhole d.fault → ((Y : List Row) → was_given d.target Y → WorkedFrom d e Y units)
    → e.work ≡ min (d.work + units) most_count → HasWorked now e
worked d now e units same kept whole went work =
    subst (λ (d : DriverState). HasWorked d e) same (record { units = units; went = went; came = (went kept.rows (kept.given whole)).went.came; work = work })

whole_or_not : (fault : Option RunFault) → IsWhole fault ⊎ (IsWhole fault → ⊥)
whole_or_not None = inl tt
whole_or_not (Some (ExprFailed node kind)) = inl tt
whole_or_not (Some run.Memory) = inr (λ w. w)

module _ (d e : DriverState) (units : ℕ) (kept : IsDriver d) (whole : IsWhole d.fault)
    (over : e.is_finished ≡ true → (e.fault ≡ None) × (last_finished ghosts (has_ended e.source) e.stages ≡ true))
    (failed : (node : ℕ) (kind : Fail) → e.fault ≡ Some (ExprFailed node kind) → SomeFails ghosts e.stages node kind) where
  turned_to : WorkedFrom d e kept.rows units → (is_told e.target ≡ true → last_finished ghosts (has_ended e.source) e.stages ≡ true) → e.work ≡ min (d.work + units) most_count → IsDriver e
  turned_to p told work = record {
    rows = p.rows;
    given = λ _. p.given;
    goes = record {
      links = λ _. p.went.links (kept.goes.links whole);
      turns = λ _. p.went.turns (kept.goes.turns whole);
      told = λ _. told;
      counts = λ _.
          let c = kept.goes.counts whole in
          record {
            rows = c.rows + p.entered;
            asks = c.asks + p.again;
            entered = p.counts.entered c.rows c.entered;
            within = asked c.asks p.again (source_misses d.source) (source_misses e.source) c.within p.within;
            work = counted d.work units e.work c.rows c.asks p.entered p.again c.work p.units_are work;
          };
      over = over;
      failed = failed;
    };
  }

  turned_in_vain : (IsWhole e.fault → ⊥) → IsDriver e
  turned_in_vain lost = record {
    rows = [];
    given = λ w. absurd (lost w);
    goes = record {
      links = λ w. absurd (lost w);
      turns = λ w. absurd (lost w);
      told = λ w. absurd (lost w);
      counts = λ w. absurd (lost w);
      over = over;
      failed = failed;
    };
  }

-- a driver after a turn, whichever way that ended
pub driver_turned : (d e : DriverState) (units : ℕ) → IsDriver d → IsWhole d.fault → (IsWhole e.fault → (Y : List Row) → was_given d.target Y → WorkedFrom d e Y units)
    → (IsWhole e.fault → (is_told d.target ≡ true → last_finished ghosts (has_ended d.source) d.stages ≡ true) → is_told e.target ≡ true → last_finished ghosts (has_ended e.source) e.stages ≡ true)
    → e.work ≡ min (d.work + units) most_count
    → (e.is_finished ≡ true → (e.fault ≡ None) × (last_finished ghosts (has_ended e.source) e.stages ≡ true))
    → ((node : ℕ) (kind : Fail) → e.fault ≡ Some (ExprFailed node kind) → SomeFails ghosts e.stages node kind) → IsDriver e
driver_turned d e units kept whole went told work over failed = after (whole_or_not e.fault)
  where
    after : IsWhole e.fault ⊎ (IsWhole e.fault → ⊥) → IsDriver e
    after (inl w) = turned_to d e units kept whole over failed (went w kept.rows (kept.given whole)) (told w (kept.goes.told whole)) work
    after (inr lost) = turned_in_vain d e units kept whole over failed lost

-- there is room for as many stages, and filters of the target
pub room_stays : (old new : List Stage) (t u : Target) (lists : NoteLists) → AllLater ghosts old new → target_made_or_lost u ≡ target_made_or_lost t
    → HaveRoomFor (length old) (length (filters_of t)) lists → HaveRoomFor (length new) (length (filters_of u)) lists
room_stays old new t u lists later made h =
    let stages : length old ≡ length new = each-length (λ s t. IsLater ghosts s t) old new later in
    subst (λ n. HaveRoomFor n (length (filters_of u)) lists) stages (subst (λ m. HaveRoomFor (length old) m lists) (sym (filters_stay t u made)) h)

-- a fault of a turn that is no want of memory
pub not_memory : (A : Type 0) (fault : OpFault) → IsWhole (Some (run_fault fault)) → NotMemory {A = A} (Err fault)
not_memory A (Expr node kind) w = tt
not_memory A op.Memory w = absurd w

-- a driver that is over, its source had ended
pub driver_over : IsLawful ghosts → (d : DriverState) → IsDriver d → d.is_finished ≡ true → IsOver d
driver_over laws d kept over =
    let o = kept.goes.over over in
    let w = whole d.fault o.0 in
    let f = finished ghosts laws (has_ended d.source) d.stages (rows_taken d.source) kept.rows (kept.goes.turns w) o.1 (kept.goes.links w) in
    record { rows = kept.rows; given = kept.given w; over = record { ended = f.0; chain = f.1 } }

pub driver_failed : (d : DriverState) → IsDriver d → (node : ℕ) (kind : Fail) → d.fault ≡ Some (ExprFailed node kind) → HasFailed d node kind
driver_failed d kept node kind e =
    let some = kept.goes.failed node kind e in
    let w = failed_whole d.fault node kind e in
    record {
      place = some.place;
      stage = some.stage;
      there = some.there;
      is = some.is;
      after = failure ghosts (has_ended d.source) d.stages some.place some.stage (rows_taken d.source) kept.rows node kind some.there some.is (kept.goes.turns w) (kept.goes.links w) some.fails;
    }

pub driver_goes_on : IsLawful ghosts → (d : DriverState) → IsDriver d → IsWhole d.fault → CanGoOn d
driver_goes_on laws d kept w = record {
  rows = kept.rows;
  given = kept.given w;
  on = λ made Z are coming.
      could_go_on ghosts laws (has_ended d.source) d.stages made (rows_taken d.source) kept.rows Z are (kept.goes.turns w) (kept.goes.links w) coming;
}
