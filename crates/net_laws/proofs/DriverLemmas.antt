-- What is known of the driver of a pipe in a task, and how the pipe, as it stands, has it.
use Rattle.std.proofs.Common.{sym, ◌≡◌, ℕ, ◌<◌, List, [], length, false, Option, Some, None, refl, subst, ap, ◌∙◌, map}
use Rattle.std.specs.Prelude.{All, option_map, slice_get, unwrap_or}
use Rattle.std.proofs.lemmas.Option.{get_or_from_slice_get, slice_get_within}
use Rattle.bag_laws.specs.Gather.{gather}
use Rattle.bag_laws.proofs.GatherLemmas.{chosen, gather-agree, gather-map}
use Rattle.operator_core.specs.Rows.{Row}
use Rattle.operator_core.specs.Stages.{Linked, last_finished}
use Rattle.driver_loop.specs.Drivers.{DriverState, IsDriverTo}
use Rattle.driver_loop.specs.Ends.{has_ended, rows_taken, was_given}
use Rattle.driver_loop.specs.contracts.stage.StageOperator.TheImpl.{ghosts}
use Rattle.driver_loop.specs.declared.stage.Stage.{Stage}
use Rattle.plan_layout.specs.Pipes.{PipeForm, StepForm, driver_number}
use Rattle.driver_net_laws.specs.Nets.{AreDriversOf, IsDriverOf, NetForm, front_stages}
use Rattle.driver_net_laws.specs.Settled.{AreSettled, WasTakenApart, in_pipe, in_task, of_lane}
use Rattle.plan_run_laws.specs.Nets.{Lanes}
use Rattle.plan_run_laws.proofs.LaneLemmas.{chosen_lanes}
use Rattle.net_laws.proofs.FrontLemmas.{came_through}
use Rattle.net_laws.proofs.ListLemmas.{found, same_some}
use Rattle.driver_net_laws.specs.States.{AllCameThrough, CameThrough, Flow, IsFlowOf, WereGiven, fact_of, no_pipe, pipe_of, pipe_states_of, rows_taken_by, sources_ended}

-- the driver, with all that is known of it
pub record Known (net : NetForm) (drivers : List DriverState) (flow : Flow) (at : ℕ) (pipe : PipeForm) (task lane : ℕ) : Type 0 where
  pub driver : DriverState
  pub there : slice_get drivers (driver_number pipe task lane) ≡ Some driver
  pub is : IsDriverOf net at pipe task lane driver
  pub still : WasTakenApart driver
  pub given : was_given driver.target (flow.gave (driver_number pipe task lane))
  pub goes : IsDriverTo driver (flow.gave (driver_number pipe task lane))
  pub through : CameThrough pipe.steps driver (flow.came at task lane) (flow.gave (driver_number pipe task lane))

abbrev pub AllKnown : NetForm → List DriverState → Flow → ℕ → PipeForm → Type 0
AllKnown net drivers flow at pipe = (task lane : ℕ) → task < pipe.tasks → lane < pipe.drivers → Known net drivers flow at pipe task lane

still_at : (drivers : List DriverState) (number : ℕ) (d : DriverState) → All WasTakenApart drivers → slice_get drivers number ≡ Some d → WasTakenApart d
still_at drivers number d all there =
    subst WasTakenApart (get_or_from_slice_get drivers number d d there) (all number d (slice_get_within drivers number d there))

-- the driver of a number was given these rows
abbrev WasGiven : List DriverState → ℕ → List Row → Type 0
WasGiven drivers number rows = (d : DriverState) → slice_get drivers number ≡ Some d → was_given d.target rows × IsDriverTo d rows

given_at : (drivers : List DriverState) → All WasTakenApart drivers → (number : ℕ) → number < length drivers → (rows : List Row) × WasGiven drivers number rows
given_at drivers all number within =
    let here = found drivers number within in
    let still = still_at drivers number here.item all here.there in (
      still.driver.rows,
      λ d there. subst (λ (e : DriverState). was_given e.target still.driver.rows × IsDriverTo e still.driver.rows)
          (same_some (sym here.there ∙ there)) (still.driver.given still.whole, still.driver.goes),
    )

all_given : (drivers : List DriverState) → All WasTakenApart drivers → (gave : ℕ → List Row) × WereGiven drivers gave
all_given drivers all =
    let chose = chosen (WasGiven drivers) [] (length drivers) (given_at drivers all) in
    (chose.0, λ number d there. chose.1 number (slice_get_within drivers number d there) d there)

-- rows that came through the first stages of the drivers of a pipe, and so for all pipes
module _ (layout : List PipeForm) (drivers : List DriverState) (all : All WasTakenApart drivers) (gave : ℕ → List Row) (given : WereGiven drivers gave) where
  of_driver : (steps : List StepForm) (number : ℕ) (o : Option DriverState) → slice_get drivers number ≡ o
      → (came : List Row) × ((d : DriverState) → slice_get drivers number ≡ Some d → CameThrough steps d came (gave number))
  of_driver steps number None none = ([], λ d there. absurd cc)
  of_driver steps number (Some e) is =
      let c = came_through steps e (gave number) (still_at drivers number e all is).whole (given number e is).1 in
      (c.0, λ d there. subst (λ (x : DriverState). CameThrough steps x c.0 (gave number)) (same_some (sym is ∙ there)) c.1)

  of_pipe : (pipe : PipeForm) → (came : Lanes) × AllCameThrough drivers gave pipe came
  of_pipe pipe =
      chosen_lanes (λ task lane came. (d : DriverState) → slice_get drivers (driver_number pipe task lane) ≡ Some d → CameThrough pipe.steps d came (gave (driver_number pipe task lane)))
      pipe.tasks pipe.drivers (λ task lane in_tasks in_lanes. of_driver pipe.steps (driver_number pipe task lane) (slice_get drivers (driver_number pipe task lane)) refl)

  abbrev CameTo : ℕ → Lanes → Type 0
  CameTo at came = (pipe : PipeForm) → slice_get layout at ≡ Some pipe → AllCameThrough drivers gave pipe came

  of_place : (at : ℕ) (o : Option PipeForm) → slice_get layout at ≡ o → (came : Lanes) × CameTo at came
  of_place at None none = (λ task lane. [], λ pipe there. absurd cc)
  of_place at (Some p) is =
      let c = of_pipe p in
      (c.0, λ pipe there. subst (λ (q : PipeForm). AllCameThrough drivers gave q c.0) (same_some (sym is ∙ there)) c.1)

  flow_of : (flow : Flow) × IsFlowOf layout drivers flow
  flow_of =
      let chose = chosen CameTo (λ task lane. []) (length layout) (λ at lt. of_place at (slice_get layout at) refl) in
      (record { gave = gave; came = chose.0 }, record { given = given; through = λ at pipe is. chose.1 at (slice_get_within layout at pipe is) pipe is })

pub rows_flowed : (layout : List PipeForm) (drivers : List DriverState) → All WasTakenApart drivers → (flow : Flow) × IsFlowOf layout drivers flow
rows_flowed layout drivers all = let g = all_given drivers all in flow_of layout drivers all g.0 g.1

pub all_known : (net : NetForm) (drivers : List DriverState) (flow : Flow) → AreDriversOf net drivers → AreSettled net drivers → IsFlowOf net.layout drivers flow
    → (at : ℕ) (pipe : PipeForm) → slice_get net.layout at ≡ Some pipe → AllKnown net drivers flow at pipe
all_known net drivers flow are settled flowed at pipe is task lane in_tasks in_lanes =
    let has = are.each at pipe is task lane in_tasks in_lanes in
    let so = flowed.given (driver_number pipe task lane) has.driver has.there in
    record {
      driver = has.driver;
      there = has.there;
      is = has.is;
      still = still_at drivers (driver_number pipe task lane) has.driver settled.each has.there;
      given = so.0;
      goes = so.1;
      through = flowed.through at pipe is task lane in_tasks in_lanes has.driver has.there;
    }

-- the pipe at a place, as it stands
pub pipe_at : (layout : List PipeForm) (drivers : List DriverState) (flow : Flow) (at : ℕ) (pipe : PipeForm) → slice_get layout at ≡ Some pipe
    → pipe_states_of layout drivers flow at ≡ pipe_of drivers flow at pipe
pipe_at layout drivers flow at pipe is = ap (λ (o : Option PipeForm). unwrap_or (option_map (pipe_of drivers flow at) o) no_pipe) is

module _ {X : Type 0} where
  pub lane_is : (of : DriverState → List X) (drivers : List DriverState) (pipe : PipeForm) (task lane : ℕ) (d : DriverState)
      → slice_get drivers (driver_number pipe task lane) ≡ Some d → of_lane of drivers pipe task lane ≡ of d
  lane_is of drivers pipe task lane d there = ap (λ (o : Option DriverState). unwrap_or (option_map of o) []) there

  pub fact_is : (none : X) (of : DriverState → X) (drivers : List DriverState) (pipe : PipeForm) (task lane : ℕ) (d : DriverState)
      → slice_get drivers (driver_number pipe task lane) ≡ Some d → fact_of none of drivers pipe task lane ≡ of d
  fact_is none of drivers pipe task lane d there = ap (λ (o : Option DriverState). unwrap_or (option_map of o) none) there

  -- where there is one driver in a task, it has all
  pub alone_is : (of : DriverState → List X) (drivers : List DriverState) (pipe : PipeForm) (task : ℕ) → pipe.drivers ≡ 1
      → in_task of drivers pipe task ≡ of_lane of drivers pipe task 0
  alone_is of drivers pipe task alone = ap (λ (n : ℕ). gather n (of_lane of drivers pipe task)) alone

module _ {X Y : Type 0} (f : X → Y) (of : DriverState → List X) (sees : DriverState → List Y) (same : (d : DriverState) → map f (of d) ≡ sees d) where
  map_found : (o : Option DriverState) → map f (unwrap_or (option_map of o) []) ≡ unwrap_or (option_map sees o) []
  map_found None = refl
  map_found (Some d) = same d

  pub map_in_task : (drivers : List DriverState) (pipe : PipeForm) (task : ℕ) → map f (in_task of drivers pipe task) ≡ in_task sees drivers pipe task
  map_in_task drivers pipe task =
      gather-map pipe.drivers f (of_lane of drivers pipe task)
      ∙ gather-agree pipe.drivers (λ lane. map f (of_lane of drivers pipe task lane)) (of_lane sees drivers pipe task)
      (λ lane below. map_found (slice_get drivers (driver_number pipe task lane)))

  pub map_in_pipe : (drivers : List DriverState) (pipe : PipeForm) → map f (in_pipe of drivers pipe) ≡ in_pipe sees drivers pipe
  map_in_pipe drivers pipe =
      gather-map pipe.tasks f (in_task of drivers pipe)
      ∙ gather-agree pipe.tasks (λ task. map f (in_task of drivers pipe task)) (in_task sees drivers pipe) (λ task below. map_in_task drivers pipe task)

module _ (net : NetForm) (drivers : List DriverState) (flow : Flow) (at : ℕ) (pipe : PipeForm) (task lane : ℕ) (k : Known net drivers flow at pipe task lane) where
  -- of its source
  pub source_took : rows_taken_by drivers pipe task lane ≡ rows_taken k.driver.source
  source_took = fact_is [] (λ (d : DriverState). rows_taken d.source) drivers pipe task lane k.driver k.there

  pub source_ended : sources_ended drivers pipe task lane ≡ has_ended k.driver.source
  source_ended = fact_is false (λ (d : DriverState). has_ended d.source) drivers pipe task lane k.driver k.there

  -- and so of the pipe, where no stage stands in front
  pub took_is : front_stages pipe.steps k.driver.stages ≡ [] → (pipe_of drivers flow at pipe).took task lane ≡ rows_taken k.driver.source
  took_is none = sym (subst (λ (ss : List Stage). Linked ghosts ss (rows_taken k.driver.source) (flow.came at task lane)) none k.through.front)

  pub front_ended : (pipe_of drivers flow at pipe).ended task lane ≡ last_finished ghosts (has_ended k.driver.source) (front_stages pipe.steps k.driver.stages)
  front_ended = fact_is false (λ (d : DriverState). last_finished ghosts (has_ended d.source) (front_stages pipe.steps d.stages)) drivers pipe task lane k.driver k.there

  pub ended_is : front_stages pipe.steps k.driver.stages ≡ [] → (pipe_of drivers flow at pipe).ended task lane ≡ has_ended k.driver.source
  ended_is none = front_ended ∙ ap (last_finished ghosts (has_ended k.driver.source)) none

  pub done_is : (pipe_of drivers flow at pipe).done task lane ≡ last_finished ghosts (has_ended k.driver.source) k.driver.stages
  done_is = fact_is false (λ (d : DriverState). last_finished ghosts (has_ended d.source) d.stages) drivers pipe task lane k.driver k.there
