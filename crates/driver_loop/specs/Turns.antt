-- What a turn of a driver answers, and what a driver hands back.
use Rattle.std.specs.Prelude.{◌≡◌, ◌+◌, ◌<◌, ◌≤◌, ℕ, List, [], ◌∷◌, ◌++◌, true, false, Option, Some, None, IfSome, flat_map, map}
use Rattle.std.specs.Option.{option_to_list}
use Rattle.std.specs.Vec.{vec_capacity}
use Rattle.blocked.specs.declared.blocked_on.BlockedOn.{BlockedOn}
use Rattle.dyn_filter.specs.Filters.{FilterState, IsFiltering}
use Rattle.driver_turns.specs.Turns.{IsBlocked}
use Rattle.driver_loop.specs.declared.turn.Turn.{Turn}
use Rattle.driver_loop.specs.declared.turn.Turn.TheVariants.{Yield, Blocked, Finished, Failed}
use Rattle.driver_loop.specs.declared.notes.NoteLists.{NoteLists}
use Rattle.driver_loop.specs.declared.pieces.CellNote.{CellNote}
use Rattle.driver_loop.specs.declared.pieces.FilterCellNote.{FilterCellNote}
use Rattle.driver_loop.specs.declared.pieces.Pieces.{Pieces}
use Rattle.driver_loop.specs.declared.stage.Stage.{Stage}
use Rattle.driver_loop.specs.declared.stage.Stage.TheVariants.{Filter, Limit, Sort, TopN, Single, Partial, Final, Probe, Dynamic}
use Rattle.driver_loop.specs.declared.target.Target.{Target}
use Rattle.driver_loop.specs.declared.target.Target.TheVariants.{Result, Build, Put, Deal}
use Rattle.driver_loop.specs.contracts.stage.StageOperator.TheImpl.{ghosts}
use Rattle.driver_loop.specs.Ends.{claim_of, is_told, rows_handed, source_looks, target_looks}
use Rattle.driver_loop.specs.Seats.{PutFirst, deal_of, gather_take_of, puts_of, spread_take_of}
use Rattle.driver_loop.specs.BuildFilters.{BuildFilterState}
use Rattle.driver_loop.specs.Drivers.{DriverState}

-- a driver that goes on, is finished, or keeps its fault, as the turn answered
abbrev pub IsLeftBy : Turn → DriverState → Type 0
IsLeftBy Yield d = (d.is_finished ≡ false) × (d.fault ≡ None)
IsLeftBy (Blocked on) d = (d.is_finished ≡ false) × (d.fault ≡ None)
IsLeftBy Finished d = (d.is_finished ≡ true) × (d.fault ≡ None)
IsLeftBy (Failed fault) d = (d.is_finished ≡ false) × (d.fault ≡ Some fault)

-- a stage waits or the source does, and the target was not told to finish; or the target waits
abbrev pub IsWaiting : DriverState → DriverState → (ℕ → ℕ → Type 0) → BlockedOn → Type 0
IsWaiting d e shown on =
    IsBlocked ghosts d.stages e.stages (is_told e.target) (source_looks d.source) (source_looks e.source) (target_looks d.target) (target_looks e.target) shown on

-- a fact of what it waits for
abbrev pub IfBlocked : Turn → (BlockedOn → Type 0) → Type 0
IfBlocked Yield P = Unit {0}
IfBlocked (Blocked on) P = P on
IfBlocked Finished P = Unit {0}
IfBlocked (Failed fault) P = Unit {0}

-- the note of a stage that looks into the cell of a join
abbrev pub note_of_stage : Stage → List CellNote
note_of_stage (Filter op) = []
note_of_stage (Limit op types) = []
note_of_stage (Sort op) = []
note_of_stage (TopN op) = []
note_of_stage (Single op) = []
note_of_stage (Partial op) = []
note_of_stage (Final op) = []
note_of_stage (Probe op types) = record { bell = op.bell; note = op.note } ∷ []
note_of_stage (Dynamic op types) = []

-- the note of a target that builds
abbrev pub note_of_target : Target → List CellNote
note_of_target (Result result) = []
note_of_target (Build build) = record { bell = build.bell; note = build.note } ∷ []
note_of_target (Put put) = []
note_of_target (Deal deal) = []

-- the notes of its stages in their order, and then that of its target
abbrev pub notes_of : DriverState → List CellNote
notes_of d = flat_map note_of_stage d.stages ++ note_of_target d.target

-- the dynamic filter by which a stage drops rows, if it does
abbrev pub filter_of_stage : Stage → Option FilterState
filter_of_stage (Filter op) = None
filter_of_stage (Limit op types) = None
filter_of_stage (Sort op) = None
filter_of_stage (TopN op) = None
filter_of_stage (Single op) = None
filter_of_stage (Partial op) = None
filter_of_stage (Final op) = None
filter_of_stage (Probe op types) = None
filter_of_stage (Dynamic op types) = Some op

-- its note, and how many rows it gave
abbrev pub look_note : FilterState → FilterCellNote
look_note op = record { bell = op.bell; part = None; note = op.note }

abbrev pub filter_note_of_stage : Stage → List FilterCellNote
filter_note_of_stage s = map look_note (option_to_list (filter_of_stage s))

abbrev pub passed_of_stage : Stage → List ℕ
passed_of_stage s = map (λ (op : FilterState). op.passed) (option_to_list (filter_of_stage s))

-- its note is one of its cell, and a domain that it knows is that of all parts, whose domains the note knows
abbrev pub KnowsParts : Stage → Type 0
KnowsParts s = IfSome (filter_of_stage s) (λ op. IsFiltering op.parts op.note op.known)

-- the filters of a target that builds, and the note of each
abbrev pub filters_of : Target → List BuildFilterState
filters_of (Result result) = []
filters_of (Build build) = build.filters
filters_of (Put put) = []
filters_of (Deal deal) = []

abbrev pub note_of_build_filter : BuildFilterState → FilterCellNote
note_of_build_filter f = record { bell = f.bell; part = Some f.part; note = f.note }

-- the notes of dynamic filters: those of its stages in their order, and then those of its target
abbrev pub filter_notes_of : DriverState → List FilterCellNote
filter_notes_of d = flat_map filter_note_of_stage d.stages ++ map note_of_build_filter (filters_of d.target)

-- how many rows each of its dynamic filters gave, in their order
abbrev pub passed_of : DriverState → List ℕ
passed_of d = flat_map passed_of_stage d.stages

-- no note and no count was put yet
pub record AreEmpty (lists : NoteLists) : Type 0 where
  pub lookups : lists.lookups.items ≡ []
  pub filters : lists.filters.items ≡ []
  pub passed : lists.passed.items ≡ []

-- there is room for what so many stages have, and for so many filters of a target and one more note of it
pub record HaveRoomFor (stages own : ℕ) (lists : NoteLists) : Type 0 where
  pub lookups : stages < vec_capacity lists.lookups
  pub filters : stages + own ≤ vec_capacity lists.filters
  pub passed : stages ≤ vec_capacity lists.passed

pub record HaveSameRoom (old new : NoteLists) : Type 0 where
  pub lookups : vec_capacity new.lookups ≡ vec_capacity old.lookups
  pub filters : vec_capacity new.filters ≡ vec_capacity old.filters
  pub passed : vec_capacity new.passed ≡ vec_capacity old.passed

-- its number, the seats of its source and of its target, and the rows of its target
pub record ArePiecesOf (d : DriverState) (p : Pieces) : Type 0 where
  pub number : p.number ≡ d.number
  pub claim : p.claim ≡ claim_of d.source
  pub gather_take : p.gather_take ≡ gather_take_of d.source
  pub spread_take : p.spread_take ≡ spread_take_of d.source
  pub puts : p.puts.items ≡ puts_of d.target
  pub deal : p.deal ≡ deal_of d.target
  pub first : PutFirst d.target p.puts.items p.deal
  pub rows : p.rows ≡ rows_handed d.target
