-- The drivers of a layout: each has the parts of its pipe in its task.
use Rattle.std.specs.Prelude.{◌≡◌, ℕ, ◌+◌, ◌-◌, ◌<◌, List, [], ◌∷◌, drop, get_or, length, map, option_map, slice_get, take, Some, unwrap_or}
use Rattle.std.specs.List.{range_with_len}
use Rattle.sql_values.specs.declared.types.SqlType.{SqlType}
use Rattle.sql_values.specs.declared.value.Value.{Value}
use Rattle.split_source.specs.Scans.{ScanState}
use Rattle.split_source.specs.Seats.{ClaimsId}
use Rattle.split_source.specs.Splits.{split_count}
use Rattle.output_buffer.specs.Seats.{EdgeId}
use Rattle.driver_ends.specs.Deals.{DealState}
use Rattle.driver_ends.specs.Fetching.{FetchingState}
use Rattle.driver_ends.specs.Outlets.{OutletState}
use Rattle.driver_ends.specs.Sources.{LocalState, RemoteState}
use Rattle.driver_ends.specs.Targets.{TargetState}
use Rattle.dyn_filter.specs.Cells.{IsNoteOf}
use Rattle.dyn_filter.specs.Filters.{FilterState}
use Rattle.driver_loop.specs.BuildFilters.{BuildFilterState}
use Rattle.driver_loop.specs.Builds.{BuildState}
use Rattle.driver_loop.specs.Drivers.{DriverState}
use Rattle.driver_loop.specs.RowsSources.{RowsState}
use Rattle.driver_loop.specs.Sources.{Source, Scan, Rows, Local, Remote, Fetch}
use Rattle.driver_loop.specs.declared.stage.Stage.{Stage}
use Rattle.driver_loop.specs.declared.stage.Stage.TheVariants.{Dynamic}
use Rattle.driver_loop.specs.declared.target.Target.{Target}
use Rattle.driver_loop.specs.declared.target.Target.TheVariants.{Result, Build, Put, Deal}
use Rattle.driver_loop.specs.contracts.stage.StageOperator.TheImpl.{ghosts}
use Rattle.plan_docs.specs.declared.node.DynamicFilter.{DynamicFilter}
use Rattle.plan_trees.specs.Allowed.{table_rows}
use Rattle.plan_trees.specs.TreeForms.{pair_view}
use Rattle.plan_trees.specs.declared.tree.Pair.{Pair}
use Rattle.plan_run_laws.specs.Stages as stage
use Rattle.plan_run_laws.specs.RunPlans as plan
use Rattle.plan_run_laws.specs.Spreads.{Tables}
use Rattle.plan_spreads.specs.Runs.{output_view}
use Rattle.pipe_laws.specs.Pipelines.{at_node}
use Rattle.source_laws.specs.Edges.{output_of}
use Rattle.source_laws.specs.Scans.{IsScanOf}
use Rattle.driver_net_laws.specs.Cells.{Names}
use Rattle.driver_net_laws.specs.Stages.{IsProbeOf, IsStageOf}
use Rattle.plan_layout.specs.declared.filters.PlacedFilter.{PlacedFilter}
use Rattle.plan_layout.specs.Filters.{filters_built, scan_filters}
use Rattle.plan_layout.specs.Layouts.{drivers_in}
use Rattle.plan_layout.specs.Pipes.{BuildForm, PipeForm, SourceForm, StepForm, TargetForm, driver_number, table, rows, sides, fragment, edge, does, probe, partial, final, result, cell, side, readers, takers}
use Rattle.driver_net_laws.specs.Types.{PipesAreTyped, PipeTypes, types_after}

-- What drivers share, by the place of the pipe that has it: the claims of the table that it reads; in each task the edge
-- into which others put for it, the edge from what fetches for it to its drivers, and the number of the bell of the cell
-- in which it publishes; and for each dynamic filter of the join whose right side it builds, by the filter's place there,
-- the number of the bell of the filter's cell. The cells have names, and those of filters a name for each part, by the
-- numbers of their bells.
pub record Links : Type 0 where
  pub claims : ℕ → ClaimsId
  pub gathers : ℕ → ℕ → EdgeId
  pub spreads : ℕ → ℕ → EdgeId
  pub cells : ℕ → ℕ → ℕ
  pub names : Names
  pub filters : ℕ → ℕ → ℕ
  pub parts : ℕ → List ℕ

-- what is fixed in a run: its pipes, the rows of its tables, how many rows of a table are claimed at a time, the types
-- of each pipe, and what its drivers share
pub record NetForm : Type 0 where
  pub layout : List PipeForm
  pub tables : Tables
  pub split : ℕ
  pub types : ℕ → PipeTypes
  pub links : Links

-- the source scans the table, by a seat of these claims of its splits
pub record IsScanFor (list : List (List Value)) (columns : List ℕ) (size : ℕ) (claims : ClaimsId) (source : Source) : Type 0 where
  pub scan : ScanState
  pub is : source ≡ Scan scan
  pub of : IsScanOf list columns size scan
  pub seat : scan.seat.claims ≡ claims
  pub some : 0 < size
  pub count : claims.of.count ≡ split_count (length list) size

pub record IsRowsFor (list : List (List Value)) (source : Source) : Type 0 where
  pub own : RowsState
  pub is : source ≡ Rows own
  pub of : own.rows ≡ list

pub record IsLocalFor (of : EdgeId) (source : Source) : Type 0 where
  pub local : LocalState
  pub is : source ≡ Local local
  pub seat : local.seat.edge ≡ of

pub record IsRemoteFor (of : EdgeId) (source : Source) : Type 0 where
  pub remote : RemoteState
  pub is : source ≡ Remote remote
  pub seat : remote.seat.edge ≡ of

pub record IsFetchFor (of : EdgeId) (source : Source) : Type 0 where
  pub fetch : FetchingState
  pub is : source ≡ Fetch fetch
  pub seat : fetch.local.seat.edge ≡ of

-- the source of a driver of the pipe at a place, in a task
abbrev pub IsSourceFor : NetForm → ℕ → ℕ → SourceForm → Source → Type 0
IsSourceFor net at task (table place columns kinds) source =
    IsScanFor (table_rows net.tables place) columns net.split (net.links.claims at) source
IsSourceFor net at task (rows kinds list) source = IsRowsFor list source
IsSourceFor net at task sides source = IsLocalFor (net.links.gathers at task) source
IsSourceFor net at task (fragment number) source = IsRemoteFor (net.links.spreads at task) source
IsSourceFor net at task (edge pipe numbers) source = IsFetchFor (net.links.gathers pipe task) source

-- The stage, as it was made, is that of a step over rows of some types, and gives rows of others. The second half of an
-- aggregate groups the rows that came to the first one.
abbrev pub IsStageFor : NetForm → ℕ → List SqlType → StepForm → List SqlType → List SqlType → Stage → Type 0
IsStageFor net task halved (does id step) between given made = IsStageOf (at_node id (stage.does between step)) between given made
IsStageFor net task halved (probe id kind on at) between given made =
    IsProbeOf net.links.names (net.links.cells at task) kind (map pair_view on) (net.types at).given between given made
IsStageFor net task halved (partial id keys calls) between given made = IsStageOf (at_node id (stage.partial keys calls)) between given made
IsStageFor net task halved (final id keys calls) between given made =
    IsStageOf (at_node id (stage.final halved (length keys) calls)) between given made

-- a stage for each step, from the source on
abbrev pub AreStagesFor : NetForm → ℕ → List SqlType → List StepForm → List SqlType → List Stage → Type 0
AreStagesFor net task halved [] between stages = stages ≡ []
AreStagesFor net task halved (step ∷ steps) between [] = ⊥
AreStagesFor net task halved (step ∷ steps) between (s ∷ stages) =
    IsStageFor net task halved step between (types_after net.types halved step between) (ghosts.as_made s)
    × AreStagesFor net task halved steps (types_after net.types halved step between) stages

-- of the stages of a driver those in front of the ones for the steps of its pipe, and these
abbrev pub front_stages : List StepForm → List Stage → List Stage
front_stages steps stages = take (length stages - length steps) stages

abbrev pub step_stages : List StepForm → List Stage → List Stage
step_stages steps stages = drop (length stages - length steps) stages

-- the stage, as it was made, drops rows of these types by a dynamic filter, whose cell it looks into
pub record IsFilterFor (net : NetForm) (types : List SqlType) (f : PlacedFilter) (made : Stage) : Type 0 where
  pub op : FilterState
  pub is : made ≡ Dynamic op types
  pub column : op.column ≡ f.filter.column
  pub waits : op.waits ≡ f.filter.wait
  pub bell : op.bell ≡ net.links.filters f.pipe f.place
  pub parts : op.parts ≡ net.links.parts op.bell

-- a stage for each of these filters, in their order
abbrev pub AreInFront : NetForm → List SqlType → List PlacedFilter → List Stage → Type 0
AreInFront net types [] stages = stages ≡ []
AreInFront net types (f ∷ fs) [] = ⊥
AreInFront net types (f ∷ fs) (s ∷ stages) = IsFilterFor net types f (ghosts.as_made s) × AreInFront net types fs stages

abbrev pub right_columns : List Pair → List ℕ
right_columns on = map (λ (pair : Pair). pair.right) on

-- Of the filter at a place among those of a join: the target keeps the values in the right column of its pair, and publishes
-- their domain in the part of its task.
pub record IsPartFor (net : NetForm) (at task : ℕ) (on : List Pair) (place : ℕ) (f : DynamicFilter) (own : BuildFilterState) : Type 0 where
  pub pair : f.key < length on
  pub column : own.column ≡ get_or (right_columns on) f.key 0
  pub part : own.part ≡ task
  pub bell : own.bell ≡ net.links.filters at place
  pub cell : IsNoteOf (net.links.parts own.bell) own.note

-- so it is of each of these, of which the first is at the place
abbrev pub ArePartsFor : NetForm → ℕ → ℕ → List Pair → ℕ → List DynamicFilter → List BuildFilterState → Type 0
ArePartsFor net at task on place [] [] = Unit {0}
ArePartsFor net at task on place [] (own ∷ owns) = ⊥
ArePartsFor net at task on place (f ∷ fs) [] = ⊥
ArePartsFor net at task on place (f ∷ fs) (own ∷ owns) = IsPartFor net at task on place f own × ArePartsFor net at task on (place + 1) fs owns

-- the target builds the right side of a join, of rows of these types, in the cell of its pipe and task
pub record IsBuildFor (net : NetForm) (at task : ℕ) (side : BuildForm) (types : List SqlType) (target : Target) : Type 0 where
  pub build : BuildState
  pub is : target ≡ Build build
  pub rings : build.bell ≡ net.links.cells at task
  pub cell : build.note.cell ≡ net.links.names (net.links.cells at task)
  pub by : build.source.keys ≡ right_columns side.on
  pub of : build.source.types ≡ types
  pub filters : ArePartsFor net at task side.on 0 side.filters build.filters

-- the target has an outlet to each of these edges, and spreads its rows over them as an output does
pub record IsPutFor (output : plan.Output) (edges : List EdgeId) (target : Target) : Type 0 where
  pub put : TargetState
  pub is : target ≡ Put put
  pub sends : output_of put.kind ≡ output
  pub of : map (λ (outlet : OutletState). outlet.seat.edge) put.outlets ≡ edges

pub record IsDealFor (of : EdgeId) (target : Target) : Type 0 where
  pub deal : DealState
  pub is : target ≡ Deal deal
  pub seat : deal.seat.edge ≡ of

abbrev pub IsResultTarget : Target → Type 0
IsResultTarget (Result own) = Unit {0}
IsResultTarget (Build build) = ⊥
IsResultTarget (Put put) = ⊥
IsResultTarget (Deal deal) = ⊥

-- how many tasks the pipe at a place has
abbrev pub tasks_at : List PipeForm → ℕ → ℕ
tasks_at layout at = unwrap_or (option_map (λ (pipe : PipeForm). pipe.tasks) (slice_get layout at)) 0

-- the edges into which others put for the pipe at a place, one for each of its tasks
abbrev pub edges_to : NetForm → ℕ → List EdgeId
edges_to net at = map (net.links.gathers at) (range_with_len 0 (tasks_at net.layout at))

-- the target of a driver of the pipe at a place, in a task
abbrev pub IsTargetFor : NetForm → ℕ → ℕ → TargetForm → Target → Type 0
IsTargetFor net at task result target = IsResultTarget target
IsTargetFor net at task (cell build) target = IsBuildFor net at task build (net.types at).given target
IsTargetFor net at task (side pipe) target = IsPutFor plan.single (net.links.gathers pipe task ∷ []) target
IsTargetFor net at task (readers output pipe) target = IsPutFor (output_view output) (edges_to net pipe) target
IsTargetFor net at task (takers pipe) target = IsDealFor (net.links.spreads pipe task) target

-- the driver of the pipe at a place, in a task and in it at a lane
pub record IsDriverOf (net : NetForm) (at : ℕ) (pipe : PipeForm) (task lane : ℕ) (d : DriverState) : Type 0 where
  pub number : d.number ≡ driver_number pipe task lane
  pub source : IsSourceFor net at task pipe.source d.source
  pub front : AreInFront net (net.types at).taken (scan_filters net.layout pipe) (front_stages pipe.steps d.stages)
  pub stages : AreStagesFor net task (net.types at).halved pipe.steps (net.types at).taken (step_stages pipe.steps d.stages)
  pub target : IsTargetFor net at task pipe.target d.target

-- the driver of a number is that of its pipe, task and lane
pub record HasDriver (net : NetForm) (drivers : List DriverState) (at : ℕ) (pipe : PipeForm) (task lane : ℕ) : Type 0 where
  pub driver : DriverState
  pub there : slice_get drivers (driver_number pipe task lane) ≡ Some driver
  pub is : IsDriverOf net at pipe task lane driver

-- the cell of each dynamic filter of a join has a part for each task
abbrev pub HaveParts : NetForm → Type 0
HaveParts net = (at : ℕ) (pipe : PipeForm) → slice_get net.layout at ≡ Some pipe → (place : ℕ) → place < length (filters_built pipe.target)
    → length (net.links.parts (net.links.filters at place)) ≡ pipe.tasks

-- these are all drivers of a layout, each at its number
pub record AreDriversOf (net : NetForm) (drivers : List DriverState) : Type 0 where
  pub typed : PipesAreTyped net.layout net.types
  pub parts : HaveParts net
  pub count : length drivers ≡ drivers_in net.layout
  pub each : (at : ℕ) (pipe : PipeForm) → slice_get net.layout at ≡ Some pipe
      → (task lane : ℕ) → task < pipe.tasks → lane < pipe.drivers → HasDriver net drivers at pipe task lane
