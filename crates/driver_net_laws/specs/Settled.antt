-- What is known of the drivers of a layout once all were taken apart and the seats of what they shared came back.
use Rattle.std.specs.Prelude.{◌≡◌, ℕ, ◌<◌, List, [], ◌∷◌, All, ◌==◌, true, Option, Some, None, flat_map, map, option_map, slice_get, unwrap_or, if◌then◌else◌}
use Rattle.bag_laws.specs.Gather.{gather}
use Rattle.split_source.specs.Gathered.{AreDistinct, AreWhole}
use Rattle.split_source.specs.Seats.{AreAllOf, SeatState}
use Rattle.output_buffer.specs.Seats.{GatherPutState, GatherTakeState, SpreadPutState, SpreadTakeState}
use Rattle.driver_loop.specs.Drivers.{DriverState, IsBuilt, IsDriver, IsOver, IsWhole}
use Rattle.driver_loop.specs.Ends.{IsBegun, IsDrained, claim_of, has_ended}
use Rattle.driver_loop.specs.Seats.{KeepsEnds, deal_of, gather_take_of, puts_of, spread_take_of}
use Rattle.driver_loop.specs.Turns.{KnowsParts, filter_note_of_stage, filters_of, note_of_build_filter, note_of_stage, note_of_target}
use Rattle.driver_loop.specs.declared.pieces.CellNote.{CellNote}
use Rattle.driver_loop.specs.declared.pieces.FilterCellNote.{FilterCellNote}
use Rattle.source_laws.specs.Edges.{GatherCameBack, SpreadCameBack}
use Rattle.driver_net_laws.specs.Cells.{AllLearnedFrom}
use Rattle.driver_net_laws.specs.FilterCells.{AllPartsLearnedFrom}
use Rattle.plan_layout.specs.Pipes.{PipeForm, SourceForm, TargetForm, driver_number, table, rows, sides, fragment, edge, result, cell, side, readers, takers}
use Rattle.driver_net_laws.specs.Nets.{NetForm}

-- one, or none
abbrev pub listed : {X : Type 0} → Option X → List X
listed None = []
listed (Some x) = x ∷ []

-- what the driver of a number has, if there is one
abbrev pub of_number : {X : Type 0} → (DriverState → List X) → List DriverState → ℕ → List X
of_number of drivers number = unwrap_or (option_map of (slice_get drivers number)) []

-- and one in a task of a pipe
abbrev pub of_lane : {X : Type 0} → (DriverState → List X) → List DriverState → PipeForm → ℕ → ℕ → List X
of_lane of drivers pipe task lane = of_number of drivers (driver_number pipe task lane)

-- what all drivers of a pipe have in a task, in their order
abbrev pub in_task : {X : Type 0} → (DriverState → List X) → List DriverState → PipeForm → ℕ → List X
in_task of drivers pipe task = gather pipe.drivers (of_lane of drivers pipe task)

-- and in all tasks
abbrev pub in_pipe : {X : Type 0} → (DriverState → List X) → List DriverState → PipeForm → List X
in_pipe of drivers pipe = gather pipe.tasks (in_task of drivers pipe)

abbrev pub claims_in : DriverState → List SeatState
claims_in d = listed (claim_of d.source)

abbrev pub gather_takes_in : DriverState → List GatherTakeState
gather_takes_in d = listed (gather_take_of d.source)

abbrev pub spread_takes_in : DriverState → List SpreadTakeState
spread_takes_in d = listed (spread_take_of d.source)

abbrev pub deals_in : DriverState → List SpreadPutState
deals_in d = listed (deal_of d.target)

-- the seat by which it puts to the edge of a task
abbrev pub put_to : ℕ → DriverState → List GatherPutState
put_to task d = listed (slice_get (puts_of d.target) task)

-- The seats by which the drivers of a pipe put for the one at a place, to the edge of a task: a side of a union puts to the edge of its own
-- task, by its only outlet, and the root of a fragment to those of all tasks that read it.
abbrev pub puts_from : List DriverState → ℕ → ℕ → PipeForm → TargetForm → List GatherPutState
puts_from drivers at task pipe result = []
puts_from drivers at task pipe (cell on) = []
puts_from drivers at task pipe (side other) = if other == at then in_task (put_to 0) drivers pipe task else []
puts_from drivers at task pipe (readers output other) = if other == at then in_pipe (put_to task) drivers pipe else []
puts_from drivers at task pipe (takers other) = []

-- those of all that give to the pipe at a place
abbrev pub puts_into : List PipeForm → List DriverState → ℕ → ℕ → List GatherPutState
puts_into layout drivers at task = flat_map (λ (pipe : PipeForm). puts_from drivers at task pipe pipe.target) layout

-- the edge into which others put for the pipe at a place came back in a task, with the seat that takes from it
pub record GatherIsBack (layout : List PipeForm) (drivers : List DriverState) (at task : ℕ) (takes : List GatherTakeState) : Type 0 where
  pub take : GatherTakeState
  pub one : takes ≡ take ∷ []
  pub back : GatherCameBack (puts_into layout drivers at task) take

-- the seats by which what fetches for the pipe at a place deals out in a task
abbrev pub deals_from : List DriverState → ℕ → ℕ → PipeForm → TargetForm → List SpreadPutState
deals_from drivers at task pipe result = []
deals_from drivers at task pipe (cell on) = []
deals_from drivers at task pipe (side other) = []
deals_from drivers at task pipe (readers output other) = []
deals_from drivers at task pipe (takers other) = if other == at then in_task deals_in drivers pipe task else []

abbrev pub deals_into : List PipeForm → List DriverState → ℕ → ℕ → List SpreadPutState
deals_into layout drivers at task = flat_map (λ (pipe : PipeForm). deals_from drivers at task pipe pipe.target) layout

-- the edge from what fetches for the pipe at a place came back in a task
pub record SpreadIsBack (layout : List PipeForm) (drivers : List DriverState) (at task : ℕ) (takes : List SpreadTakeState) : Type 0 where
  pub put : SpreadPutState
  pub one : deals_into layout drivers at task ≡ put ∷ []
  pub back : SpreadCameBack put takes

-- what the drivers of the pipe shared to take their rows came back
abbrev pub SourceIsBack : NetForm → List DriverState → ℕ → PipeForm → SourceForm → Type 0
SourceIsBack net drivers at pipe (table place columns kinds) =
    AreAllOf (net.links.claims at) (in_pipe claims_in drivers pipe)
    × AreDistinct (in_pipe claims_in drivers pipe) × AreWhole (in_pipe claims_in drivers pipe)
SourceIsBack net drivers at pipe (rows kinds list) = Unit {0}
SourceIsBack net drivers at pipe sides =
    (task : ℕ) → task < pipe.tasks → GatherIsBack net.layout drivers at task (in_task gather_takes_in drivers pipe task)
SourceIsBack net drivers at pipe (fragment number) =
    (task : ℕ) → task < pipe.tasks → SpreadIsBack net.layout drivers at task (in_task spread_takes_in drivers pipe task)
SourceIsBack net drivers at pipe (edge of numbers) =
    (task : ℕ) → task < pipe.tasks → GatherIsBack net.layout drivers of task (in_task gather_takes_in drivers pipe task)

-- what is known of a driver that was taken apart
pub record WasTakenApart (d : DriverState) : Type 0 where
  pub driver : IsDriver d
  pub whole : IsWhole d.fault
  pub drained : has_ended d.source ≡ true → IsDrained d.source
  pub begun : IsBegun d.source
  pub over : d.is_finished ≡ true → IsOver d
  pub built : IsBuilt d
  pub ends : KeepsEnds d.target
  pub knows : All KnowsParts d.stages

-- the notes of all drivers that look into cells, and those of all that publish
abbrev pub looks_of : List DriverState → List CellNote
looks_of drivers = flat_map (λ (d : DriverState). flat_map note_of_stage d.stages) drivers

abbrev pub builds_of : List DriverState → List CellNote
builds_of drivers = flat_map (λ (d : DriverState). note_of_target d.target) drivers

-- the notes of dynamic filters: of all stages, which look into the cells, and of all targets, which publish
abbrev pub filter_looks_of : List DriverState → List FilterCellNote
filter_looks_of drivers = flat_map (λ (d : DriverState). flat_map filter_note_of_stage d.stages) drivers

abbrev pub filter_builds_of : List DriverState → List FilterCellNote
filter_builds_of drivers = flat_map (λ (d : DriverState). map note_of_build_filter (filters_of d.target)) drivers

pub record AreSettled (net : NetForm) (drivers : List DriverState) : Type 0 where
  pub each : All WasTakenApart drivers
  pub back : (at : ℕ) (pipe : PipeForm) → slice_get net.layout at ≡ Some pipe → SourceIsBack net drivers at pipe pipe.source
  pub follow : AllLearnedFrom (looks_of drivers) (builds_of drivers)
  pub parts : AllPartsLearnedFrom (filter_looks_of drivers) (filter_builds_of drivers)
