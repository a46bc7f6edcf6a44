-- The pipes of a layout as their drivers stand.
use Rattle.std.specs.Prelude.{◌≡◌, ◌<◌, ℕ, List, [], false, Some, option_map, slice_get, unwrap_or}
use Rattle.operator_core.specs.Rows.{Row}
use Rattle.operator_core.specs.Stages.{Linked, last_finished}
use Rattle.driver_loop.specs.Drivers.{DriverState, IsDriverTo}
use Rattle.driver_loop.specs.Ends.{has_ended, rows_taken, was_given}
use Rattle.driver_loop.specs.declared.stage.Stage.{Stage}
use Rattle.driver_loop.specs.contracts.stage.StageOperator.TheImpl.{ghosts}
use Rattle.driver_net_laws.specs.Made.{notes_known}
use Rattle.driver_net_laws.specs.Nets.{front_stages, step_stages}
use Rattle.plan_run_laws.specs.Nets.{Lanes}
use Rattle.plan_run_laws.specs.Stops.{Flags}
use Rattle.pipe_laws.specs.Pipes.{PipeState}
use Rattle.plan_layout.specs.Pipes.{PipeForm, StepForm, driver_number}

-- a fact of the driver of a number, or what stands for it where there is none
abbrev pub fact_of : {X : Type 0} → X → (DriverState → X) → List DriverState → PipeForm → ℕ → ℕ → X
fact_of none of drivers pipe task lane = unwrap_or (option_map of (slice_get drivers (driver_number pipe task lane))) none

-- The rows that flowed through the drivers of a layout: those that the target of each was given, by its number, and those
-- that came to the stages for the steps of each, by the place of its pipe, its task and its lane
pub record Flow : Type 0 where
  pub gave : ℕ → List Row
  pub came : ℕ → Lanes

-- these are rows that the targets of the drivers were given, by their numbers
abbrev pub WereGiven : List DriverState → (ℕ → List Row) → Type 0
WereGiven drivers gave = (number : ℕ) (d : DriverState) → slice_get drivers number ≡ Some d → was_given d.target (gave number) × IsDriverTo d (gave number)

-- the stages in front made these rows of what the driver took of its source, and those for the steps gave the others for them
pub record CameThrough (steps : List StepForm) (d : DriverState) (came given : List Row) : Type 0 where
  pub front : Linked ghosts (front_stages steps d.stages) (rows_taken d.source) came
  pub rest : Linked ghosts (step_stages steps d.stages) came given

-- so it is of each driver of a pipe
abbrev pub AllCameThrough : List DriverState → (ℕ → List Row) → PipeForm → Lanes → Type 0
AllCameThrough drivers gave pipe came =
    (task lane : ℕ) → task < pipe.tasks → lane < pipe.drivers → (d : DriverState) → slice_get drivers (driver_number pipe task lane) ≡ Some d
    → CameThrough pipe.steps d (came task lane) (gave (driver_number pipe task lane))

pub record IsFlowOf (layout : List PipeForm) (drivers : List DriverState) (flow : Flow) : Type 0 where
  pub given : WereGiven drivers flow.gave
  pub through : (at : ℕ) (pipe : PipeForm) → slice_get layout at ≡ Some pipe → AllCameThrough drivers flow.gave pipe (flow.came at)

-- what the drivers of a pipe took of their sources, and whether these have ended
abbrev pub rows_taken_by : List DriverState → PipeForm → Lanes
rows_taken_by drivers pipe = fact_of [] (λ d. rows_taken d.source) drivers pipe

abbrev pub sources_ended : List DriverState → PipeForm → Flags
sources_ended drivers pipe = fact_of false (λ d. has_ended d.source) drivers pipe

-- the pipe at a place, from the stages for its steps on
abbrev pub pipe_of : List DriverState → Flow → ℕ → PipeForm → PipeState Stage
pipe_of drivers flow at pipe = record {
  tasks = pipe.tasks;
  drivers = pipe.drivers;
  notes = fact_of [] (λ d. notes_known (step_stages pipe.steps d.stages)) drivers pipe;
  stages = fact_of [] (λ d. step_stages pipe.steps d.stages) drivers pipe;
  took = flow.came at;
  gave = λ task lane. flow.gave (driver_number pipe task lane);
  ended = fact_of false (λ d. last_finished ghosts (has_ended d.source) (front_stages pipe.steps d.stages)) drivers pipe;
  done = fact_of false (λ d. last_finished ghosts (has_ended d.source) d.stages) drivers pipe;
}

-- none
abbrev pub no_pipe : PipeState Stage
no_pipe = record {
  tasks = 0;
  drivers = 0;
  notes = λ task lane. [];
  stages = λ task lane. [];
  took = λ task lane. [];
  gave = λ task lane. [];
  ended = λ task lane. false;
  done = λ task lane. false;
}

-- that at a place
abbrev pub pipe_states_of : List PipeForm → List DriverState → Flow → ℕ → PipeState Stage
pipe_states_of layout drivers flow at = unwrap_or (option_map (pipe_of drivers flow at) (slice_get layout at)) no_pipe
