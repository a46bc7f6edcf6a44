-- What a run gives whose drivers are all finished, and of what it failed where one of them did.
use Rattle.std.proofs.Common.{◌≡◌, ◌++◌, Bool, ◌⊎◌, inl, inr, ℕ, ◌<◌, List, [], true, false, Option, Some, None, length, refl, ap, sym, subst, ◌∙◌, arith}
use Rattle.std.specs.Prelude.{All, get_or, option_map, slice_get, unwrap_or}
use Rattle.std.proofs.lemmas.Bool.{cases_Bool}
use Rattle.std.proofs.lemmas.List.Elements.{All-contains}
use Rattle.std.proofs.lemmas.Option.{slice_get_within}
use Rattle.sql_values.specs.declared.fail.Fail.{Fail}
use Rattle.operator_core.specs.Calls.{IsLawful}
use Rattle.operator_core.specs.Rows.{Row}
use Rattle.operator_core.specs.Stages.{last_finished}
use Rattle.plan_trees.specs.Allowed.{Gives, strict}
use Rattle.plan_trees.specs.Stopped.{MayFail}
use Rattle.tree_evaluator.specs.Fits.{FitsTables}
use Rattle.driver_net_laws.proofs.FitLemmas.{fits_widths}
use Rattle.plan_run_laws.specs.Nets.{IsAlone, Went, of_tasks}
use Rattle.plan_run_laws.specs.Placements.{Placed}
use Rattle.plan_run_laws.specs.RunPlans.{RunPlan, tree_of_run}
use Rattle.plan_run_laws.specs.Spreads.{whole}
use Rattle.plan_run_laws.proofs.ComposeLemmas.{composed}
use Rattle.lost_row_laws.specs.Faults.{FailedLosing}
use Rattle.lost_row_laws.specs.Nets.{BelowLosing}
use Rattle.lost_row_laws.specs.Runs.{AreTyped}
use Rattle.lost_row_laws.specs.Sieves.{Sieve}
use Rattle.lost_row_laws.proofs.FailedLemmas.{failed}
use Rattle.lost_row_laws.proofs.RestoreLemmas.{put_back}
use Rattle.lost_row_laws.proofs.WireLemmas.{wired}
use Rattle.sieve_laws.proofs.DropLemmas.{calm_front}
use Rattle.sieve_laws.proofs.FailLemmas.{failed_in}
use Rattle.sieve_laws.proofs.OverLemmas.{gave_root}
use Rattle.sieve_laws.proofs.SplitLemmas.{fails_after}
use Rattle.sieve_laws.proofs.TypedLemmas.{typed as run_typed}
use Rattle.driver_loop.specs.Drivers.{DriverState, HasFailed}
use Rattle.driver_loop.specs.declared.run_fault.RunFault.TheVariants.{ExprFailed}
use Rattle.driver_loop.specs.Ends.{has_ended, rows_handed, rows_taken, was_given}
use Rattle.driver_turns.specs.Turns.{StageFailed}
use Rattle.driver_loop.specs.contracts.stage.StageOperator.TheImpl.{ghosts}
use Rattle.driver_loop.specs.declared.stage.Stage.{Stage}
use Rattle.driver_loop.specs.declared.target.Target.{Target}
use Rattle.driver_loop.specs.declared.target.Target.TheVariants.{Build, Deal, Put, Result}
use Rattle.driver_net_laws.specs.Lanes.{notes_of_lanes}
use Rattle.driver_net_laws.specs.Pipes.{AreOver, HasFailing, PipeState}
use Rattle.plan_layout.specs.declared.filters.PlacedFilter.{PlacedFilter}
use Rattle.plan_layout.specs.Filters.{scan_filters}
use Rattle.plan_layout.specs.Layouts.{drivers_in}
use Rattle.plan_layout.specs.Pipes.{PipeForm, StepForm, TargetForm, driver_number, result}
use Rattle.net_laws.specs.Numbers.{AreNumbered}
use Rattle.net_laws.specs.Reached.{AreReached, IsWithin, is_fetching}
use Rattle.net_laws.specs.RunPipes.{PipeIn, RunsAs}
use Rattle.driver_net_laws.specs.Nets.{AreDriversOf, AreInFront, AreStagesFor, IsResultTarget, IsTargetFor, NetForm, front_stages, step_stages}
use Rattle.driver_net_laws.specs.Settled.{AreSettled}
use Rattle.driver_net_laws.specs.States.{Flow, IsFlowOf, no_pipe, pipe_of, pipe_states_of}
use Rattle.net_laws.proofs.DriverLemmas.{Known, all_known, done_is, front_ended, pipe_at, took_is}
use Rattle.net_laws.proofs.FilterStageLemmas.{front_drops}
use Rattle.net_laws.proofs.FrontLemmas.{cut, front_finished, told_behind}
use Rattle.net_laws.proofs.ListLemmas.{same_some}
use Rattle.net_laws.proofs.NoteLemmas.{contains_got}
use Rattle.net_laws.specs.Sifted.{AreSiftedBy}
use Rattle.net_laws.specs.Standing.{IsStanding}
use Rattle.net_laws.specs.Tidy.{IsTidy}
use Rattle.net_laws.proofs.StandLemmas.{Passes, all_stand, or_below}

result_rows : (target : Target) (rows : List Row) → IsResultTarget target → was_given target rows → rows ≡ rows_handed target
result_rows (Result own) rows is given = given
result_rows (Build own) rows is given = absurd is
result_rows (Put own) rows is given = absurd is
result_rows (Deal own) rows is given = absurd is

module _ (net : NetForm) (drivers : List DriverState) (of : AreDriversOf net drivers) (settled : AreSettled net drivers) (flow : Flow) (flowed : IsFlowOf net.layout drivers flow) (laws : IsLawful ghosts) where
  abbrev P : ℕ → PipeState Stage
  P = pipe_states_of net.layout drivers flow

  abbrev known : (at : ℕ) (pipe : PipeForm) → slice_get net.layout at ≡ Some pipe → (k d : ℕ) → k < pipe.tasks → d < pipe.drivers → Known net drivers flow at pipe k d
  known = all_known net drivers flow of settled flowed

  abbrev IsOverAt : PipeState Stage → Type 0
  IsOverAt p = (k d : ℕ) → k < p.tasks → d < p.drivers → (p.ended k d ≡ true) × (p.done k d ≡ true)

  finished_at : All (λ d. d.is_finished ≡ true) drivers → (number : ℕ) (d : DriverState) → slice_get drivers number ≡ Some d → d.is_finished ≡ true
  finished_at finished number d there = All-contains (λ (e : DriverState). e.is_finished ≡ true) drivers d finished (contains_got drivers number d there)

  pipe_over : All (λ d. d.is_finished ≡ true) drivers → (at : ℕ) (pipe : PipeForm) → slice_get net.layout at ≡ Some pipe → IsOverAt (pipe_of drivers flow at pipe)
  pipe_over finished at pipe is k d in_task in_lane =
      let it = known at pipe is k d in_task in_lane in
      let done = (it.goes.over (finished_at finished (driver_number pipe k d) it.driver it.there)).1 in (
        front_ended net drivers flow at pipe k d it ∙ front_finished laws pipe.steps it.driver.stages (has_ended it.driver.source) (it.goes.turns it.still.whole) done,
        done_is net drivers flow at pipe k d it ∙ done,
      )

  over_at : All (λ d. d.is_finished ≡ true) drivers → (at : ℕ) (o : Option PipeForm) → slice_get net.layout at ≡ o → IsOverAt (unwrap_or (option_map (pipe_of drivers flow at) o) no_pipe)
  over_at finished at None is k d in_task in_lane = absurd (omega (arith, in_task))
  over_at finished at (Some pipe) is k d in_task in_lane = pipe_over finished at pipe is k d in_task in_lane

  pub all_over : All (λ d. d.is_finished ≡ true) drivers → AreOver P
  all_over finished j k d in_task in_lane = over_at finished j (slice_get net.layout j) refl k d in_task in_lane

  -- the driver of a pipe, and what is known of it
  module _ (at : ℕ) (pipe : PipeForm) (k d : ℕ) (it : Known net drivers flow at pipe k d) (node : ℕ) (kind : Fail) where
    abbrev first : List Stage
    first = front_stages pipe.steps it.driver.stages

    abbrev rest : List Stage
    rest = step_stages pipe.steps it.driver.stages

    abbrev over : Bool
    over = has_ended it.driver.source

    -- a stage for a step of its pipe fails
    abbrev FailsBehind : Type 0
    FailsBehind = StageFailed ghosts rest (last_finished ghosts over first) (flow.came at k d) node kind

    -- where it failed: no filter in front ever fails
    by_fault : it.driver.fault ≡ Some (ExprFailed node kind) → FailsBehind
    by_fault fault =
        let all = cut pipe.steps it.driver.stages in
        let f = it.goes.failed node kind fault in
        let drops = front_drops net (net.types at).taken (scan_filters net.layout pipe) first it.is.front in
        let lt = subst (λ (ss : List Stage). f.place < length ss) all f.there in
        let is = subst (λ (ss : List Stage). f.stage ≡ get_or ss f.place f.stage) all f.is in
        let (i, within, same) = calm_front ghosts laws [] [] drops.0 first rest drops.1 (rows_taken it.driver.source) (flow.came at k d)
        it.through.front node kind f.place f.stage lt is f.fails in
        let turns = told_behind pipe.steps it.driver.stages over (it.goes.turns it.still.whole) in
        record {
          place = i;
          stage = f.stage;
          there = within;
          is = same;
          after = fails_after ghosts rest (last_finished ghosts over first) (flow.came at k d) (flow.gave (driver_number pipe k d)) node kind i f.stage
              within same f.fails it.through.rest turns;
        }

    -- where its pipe has no filter, and a stage fails on what came to it
    by_stage : scan_filters net.layout pipe ≡ [] → HasFailed it.driver node kind → FailsBehind
    by_stage plain fails =
        let none = subst (λ (fs : List PlacedFilter). AreInFront net (net.types at).taken fs first) plain it.is.front in
        let all : it.driver.stages ≡ rest = cut pipe.steps it.driver.stages ∙ ap (λ (ss : List Stage). ss ++ rest) none in
        let rows : rows_taken it.driver.source ≡ flow.came at k d = sym (took_is net drivers flow at pipe k d it none) in
        let behind = subst (λ (ss : List Stage). StageFailed ghosts ss over (rows_taken it.driver.source) node kind) all fails in
        let told = subst (λ (b : Bool). StageFailed ghosts rest b (rows_taken it.driver.source) node kind) (sym (ap (last_finished ghosts over) none)) behind in
        subst (λ (taken : List Row). StageFailed ghosts rest (last_finished ghosts over first) taken node kind) rows told

    -- so it is a failing lane of its pipe
    failing_in : slice_get net.layout at ≡ Some pipe → k < pipe.tasks → d < pipe.drivers → FailsBehind → HasFailing ghosts (P at) node kind
    failing_in is in_task in_lane fails =
        let lane = subst (λ (o : Option DriverState). StageFailed ghosts (unwrap_or (option_map (λ (e : DriverState). step_stages pipe.steps e.stages) o) [])
        (unwrap_or (option_map (λ (e : DriverState). last_finished ghosts (has_ended e.source) (front_stages pipe.steps e.stages)) o) false)
        (flow.came at k d) node kind) (sym it.there) fails in
        let here : HasFailing ghosts (pipe_of drivers flow at pipe) node kind = record {
          task = k;
          driver = d;
          in_tasks = in_task;
          in_drivers = in_lane;
          place = lane.place;
          operator = lane.stage;
          there = lane.there;
          is = lane.is;
          fails = lane.after;
        } in
        subst (λ (p : PipeState Stage). HasFailing ghosts p node kind) (sym (pipe_at net.layout drivers flow at pipe is)) here

    -- what has no step has no stage that fails
    never_fails : pipe.steps ≡ [] → FailsBehind → ⊥
    never_fails plain fails =
        let stages = subst (λ (ss : List StepForm). AreStagesFor net k (net.types at).halved ss (net.types at).taken rest) plain it.is.stages in
        let none : length rest ≡ 0 = ap (λ (ss : List Stage). length ss) stages in
        omega (arith, fails.there, none)

  module _ (tidy : IsTidy net.layout) (passes : Passes net drivers flow) (of_join due : ℕ → List Sieve)
      (run : RunPlan) (fits_tables : FitsTables (tree_of_run run) net.tables) (placed : Placed 1 run whole) where
    typed : AreTyped run
    typed = run_typed run net.tables fits_tables

    module _ (at : ℕ) (root : PipeIn net.layout 1 result at (RunsAs net.layout 1 run)) (lone : IsAlone root.pipe.drivers)
        (sifted : AreSiftedBy drivers P of_join due net.layout [] 1 run at root.pipe.drivers root.pipe.source root.pipe.steps root.so) where
      standing : IsStanding P of_join net.tables net.layout [] 1 run at root.pipe root.so
      standing = all_stand net drivers of settled flow flowed laws tidy passes of_join due [] 1 run at root.pipe root.is root.tasks root.so sifted fits_tables

      one : (P at).drivers ≡ 1
      one = ap (λ (p : PipeState Stage). p.drivers) (pipe_at net.layout drivers flow at root.pipe root.is) ∙ lone

      gives_allowed : All (λ d. d.is_finished ≡ true) drivers → Gives strict (tree_of_run run) net.tables ((P at).gave 0 0)
      gives_allowed finished =
          let all = gave_root ghosts laws P of_join net.tables (all_over finished) at run standing.is standing.on.stands in
          let took = (P at).took in
          let below = subst (λ (w : ℕ). BelowLosing strict net.tables [] 1 w run all.builds took) one all.below in
          let went = subst (λ (w : ℕ). Went strict 1 w run all.builds took (P at).gave) one all.went in
          composed strict net.tables (omega arith) (fits_widths (tree_of_run run) net.tables fits_tables) placed (of_tasks 1 (P at).gave)
          (put_back strict net.tables 1 run typed (of_tasks 1 (P at).gave) (wired strict net.tables [] 1 1 run all.builds took (P at).gave below went))

      pub gives : All (λ d. d.is_finished ≡ true) drivers → (d : DriverState) → slice_get drivers (driver_number root.pipe 0 0) ≡ Some d
          → Gives strict (tree_of_run run) net.tables (rows_handed d.target)
      gives finished d there =
          let it = known at root.pipe root.is 0 0 (omega (arith, root.tasks)) (omega (arith, lone)) in
          let same : it.driver ≡ d = cc (it.there, there) in
          let target = subst (λ (t : TargetForm). IsTargetFor net at 0 t it.driver.target) root.has it.is.target in
          let rows = result_rows it.driver.target (flow.gave (driver_number root.pipe 0 0)) target it.given in
          subst (Gives strict (tree_of_run run) net.tables)
          (ap (λ (p : PipeState Stage). p.gave 0 0) (pipe_at net.layout drivers flow at root.pipe root.is) ∙ rows ∙ ap (λ (e : DriverState). rows_handed e.target) same)
          (gives_allowed finished)

    module _ (reached : AreReached net.layout run) (lone : IsAlone reached.root.pipe.drivers)
        (sifted : AreSiftedBy drivers P of_join due net.layout [] 1 run reached.at reached.root.pipe.drivers reached.root.pipe.source reached.root.pipe.steps reached.root.so)
        (node : ℕ) (kind : Fail) where
      stood : IsStanding P of_join net.tables net.layout [] 1 run reached.at reached.root.pipe reached.root.so
      stood = standing reached.at reached.root lone sifted

      fails_in : (place : ℕ) → HasFailing ghosts (P place) node kind → (place ≡ reached.at)
          ⊎ IsWithin net.layout place 1 run reached.at reached.root.pipe.drivers reached.root.pipe.source reached.root.pipe.steps reached.root.so
          → MayFail (tree_of_run run) net.tables node kind
      fails_in place failing within =
          let notes = notes_of_lanes run (P reached.at).notes in
          let all = failed_in ghosts laws P of_join net.tables node kind place failing [] reached.at 1 run stood.is stood.on.stands (or_below (stood.on.below place) within) in
          failed net.tables node kind (omega arith) typed (fits_widths (tree_of_run run) net.tables fits_tables) placed 1 notes (P reached.at).took (P reached.at).ended
          (subst (λ (w : ℕ). FailedLosing net.tables 1 w run notes (P reached.at).took (P reached.at).ended node kind) (one reached.at reached.root lone sifted) all)

      by_target : (at : ℕ) (pipe : PipeForm) → slice_get net.layout at ≡ Some pipe → (k d : ℕ) → k < pipe.tasks → d < pipe.drivers
          → (it : Known net drivers flow at pipe k d) → FailsBehind at pipe k d it node kind
          → (is_fetching pipe.target ≡ true) ⊎ (is_fetching pipe.target ≡ false) → MayFail (tree_of_run run) net.tables node kind
      by_target at pipe is k d in_task in_lane it fails (inl fetches) = absurd (never_fails at pipe k d it node kind (tidy.plain at pipe is fetches) fails)
      by_target at pipe is k d in_task in_lane it fails (inr stays) =
          fails_in at (failing_in at pipe k d it node kind is in_task in_lane fails) (reached.each at pipe is stays)

      -- where a driver failed
      pub fails : AreNumbered (λ pipe. pipe.drivers) (λ pipe. pipe.numbers) net.layout (drivers_in net.layout)
          → (number : ℕ) (d : DriverState) → slice_get drivers number ≡ Some d → d.fault ≡ Some (ExprFailed node kind)
          → MayFail (tree_of_run run) net.tables node kind
      fails numbered number d there fault =
          let (seat, same) = numbered.some number (subst (λ (n : ℕ). number < n) of.count (slice_get_within drivers number d there)) in
          let it = known seat.at seat.pipe seat.is seat.task seat.lane seat.has_task seat.has_lane in
          let there_too = subst (λ (n : ℕ). slice_get drivers n ≡ Some it.driver) same it.there in
          let one_driver : d ≡ it.driver = cc (there, there_too) in
          let own = by_fault seat.at seat.pipe seat.task seat.lane it node kind (subst (λ (e : DriverState). e.fault ≡ Some (ExprFailed node kind)) one_driver fault) in
          by_target seat.at seat.pipe seat.is seat.task seat.lane seat.has_task seat.has_lane it own (cases_Bool (is_fetching seat.pipe.target))

      -- where one of a pipe of no filter has a stage that fails
      pub fails_plainly : (at : ℕ) (pipe : PipeForm) → slice_get net.layout at ≡ Some pipe → scan_filters net.layout pipe ≡ []
          → (task lane : ℕ) → task < pipe.tasks → lane < pipe.drivers → (d : DriverState) → slice_get drivers (driver_number pipe task lane) ≡ Some d
          → HasFailed d node kind → MayFail (tree_of_run run) net.tables node kind
      fails_plainly at pipe is plain task lane in_tasks in_lanes d there failed_it =
          let it = known at pipe is task lane in_tasks in_lanes in
          let one_driver : d ≡ it.driver = same_some (sym there ∙ it.there) in
          let own = by_stage at pipe task lane it node kind plain (subst (λ (e : DriverState). HasFailed e node kind) one_driver failed_it) in
          by_target at pipe is task lane in_tasks in_lanes it own (cases_Bool (is_fetching pipe.target))
