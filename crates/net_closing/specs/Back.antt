-- What came back.
use Rattle.std.specs.Prelude.{◌≡◌, ℕ, ◌*◌, ◌<◌, List, max, slice_get, Some}
use Rattle.sql_values.specs.declared.types.SqlType.{SqlType}
use Rattle.split_source.specs.Gathered.{AreDistinct, AreWhole}
use Rattle.split_source.specs.Seats.{AreAll}
use Rattle.driver_loop.specs.Drivers.{DriverState}
use Rattle.plan_layout.specs.Pipes.{PipeForm, SourceForm, TargetForm, table, rows, sides, fragment, edge, result, cell, side, readers, takers}
use Rattle.driver_net_laws.specs.Nets.{AreDriversOf, NetForm}
use Rattle.driver_net_laws.specs.Settled.{GatherIsBack, SpreadIsBack, claims_in, gather_takes_in, in_pipe, in_task, spread_takes_in}
use Rattle.net_closing.specs.Left.{ArePartsOf}
use Rattle.net_closing.specs.declared.parts.Parts.{Parts}

-- There is a net of this layout, of which these are the drivers. The claims of a table have a seat for each driver of its
-- pipe; one is made also where no driver is there to have it.
pub record HasNet (layout : List PipeForm) (drivers : List DriverState) : Type 0 where
  pub net : NetForm
  pub laid : net.layout ≡ layout
  pub are : AreDriversOf net drivers
  pub seats : (at : ℕ) (pipe : PipeForm) (place : ℕ) (columns : List ℕ) (kinds : List SqlType) → slice_get layout at ≡ Some pipe
      → pipe.source ≡ table place columns kinds → (net.links.claims at).of.seats ≡ max (pipe.tasks * pipe.drivers) 1

-- these are left of the parts of its drivers
pub record IsOfNet (layout : List PipeForm) (parts : Parts) : Type 0 where
  pub drivers : List DriverState
  pub net : HasNet layout drivers
  pub left : ArePartsOf drivers parts

-- the pipe scans a table
pub record IsScanning (parts : Parts) (pipe : PipeForm) : Type 0 where
  pub layout : List PipeForm
  pub net : IsOfNet layout parts
  pub at : ℕ
  pub there : slice_get layout at ≡ Some pipe
  pub place : ℕ
  pub columns : List ℕ
  pub kinds : List SqlType
  pub is : pipe.source ≡ table place columns kinds

-- a source of the pipe at a place takes from the edges into which others put for the one at another place, or at its own
abbrev pub IsFrom : ℕ → ℕ → SourceForm → Type 0
IsFrom at of (table place columns kinds) = ⊥
IsFrom at of (rows kinds list) = ⊥
IsFrom at of sides = of ≡ at
IsFrom at of (fragment number) = ⊥
IsFrom at of (edge pipe numbers) = of ≡ pipe

-- the pipe does
pub record IsTakingFrom (layout : List PipeForm) (parts : Parts) (pipe : PipeForm) (of : ℕ) : Type 0 where
  pub net : IsOfNet layout parts
  pub at : ℕ
  pub there : slice_get layout at ≡ Some pipe
  pub from : IsFrom at of pipe.source

-- the pipe at a place reads a fragment
pub record IsReading (layout : List PipeForm) (parts : Parts) (pipe : PipeForm) (at : ℕ) : Type 0 where
  pub net : IsOfNet layout parts
  pub there : slice_get layout at ≡ Some pipe
  pub number : ℕ
  pub is : pipe.source ≡ fragment number

-- a side of the union at a place has this task
abbrev pub HasTask : ℕ → ℕ → PipeForm → TargetForm → Type 0
HasTask at task pipe result = Unit {0}
HasTask at task pipe (cell on) = Unit {0}
HasTask at task pipe (side other) = other ≡ at → task < pipe.tasks
HasTask at task pipe (readers output other) = Unit {0}
HasTask at task pipe (takers other) = Unit {0}

abbrev pub SideHasTask : ℕ → ℕ → PipeForm → Type 0
SideHasTask at task pipe = HasTask at task pipe pipe.target

-- what fetches for the pipe at a place has it
abbrev pub FetchesInTask : ℕ → ℕ → PipeForm → TargetForm → Type 0
FetchesInTask at task pipe result = Unit {0}
FetchesInTask at task pipe (cell on) = Unit {0}
FetchesInTask at task pipe (side other) = Unit {0}
FetchesInTask at task pipe (readers output other) = Unit {0}
FetchesInTask at task pipe (takers other) = other ≡ at → task < pipe.tasks

abbrev pub FetchHasTask : ℕ → ℕ → PipeForm → Type 0
FetchHasTask at task pipe = FetchesInTask at task pipe pipe.target

-- the seats of all drivers of a pipe that claim the splits of a table
abbrev pub ClaimsAreBack : List DriverState → PipeForm → Type 0
ClaimsAreBack drivers pipe =
    AreAll (in_pipe claims_in drivers pipe) × AreDistinct (in_pipe claims_in drivers pipe) × AreWhole (in_pipe claims_in drivers pipe)

-- in each task of a pipe the edge into which others put for the one at a place
abbrev pub GathersAreBack : List PipeForm → List DriverState → ℕ → PipeForm → Type 0
GathersAreBack layout drivers at pipe =
    (task : ℕ) → task < pipe.tasks → GatherIsBack layout drivers at task (in_task gather_takes_in drivers pipe task)

-- and the edge from what fetches for it
abbrev pub SpreadsAreBack : List PipeForm → List DriverState → ℕ → PipeForm → Type 0
SpreadsAreBack layout drivers at pipe =
    (task : ℕ) → task < pipe.tasks → SpreadIsBack layout drivers at task (in_task spread_takes_in drivers pipe task)

-- what the drivers of the pipe at a place shared to take their rows came back, whatever net they are of
abbrev pub CameBack : List PipeForm → List DriverState → ℕ → PipeForm → SourceForm → Type 0
CameBack layout drivers at pipe (table place columns kinds) = ClaimsAreBack drivers pipe
CameBack layout drivers at pipe (rows kinds list) = Unit {0}
CameBack layout drivers at pipe sides = GathersAreBack layout drivers at pipe
CameBack layout drivers at pipe (fragment number) = SpreadsAreBack layout drivers at pipe
CameBack layout drivers at pipe (edge of numbers) = GathersAreBack layout drivers of pipe
