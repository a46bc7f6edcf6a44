-- A driver as it is seen, and what it keeps over its turns.
use Rattle.std.specs.Prelude.{◌≡◌, ◌+◌, ◌<◌, ◌≤◌, ℕ, List, All, Bool, true, false, Option, Some, None, map, min}
use Rattle.sql_values.specs.declared.fail.Fail.{Fail}
use Rattle.count_laws.specs.Counts.{most_count}
use Rattle.operator_core.specs.Rows.{Row, Coming}
use Rattle.operator_core.specs.Stages.{Linked, ToldInTurn, AllCameFrom, Chain, AreMadeOf, GoesOn, last_finished}
use Rattle.stage_moves.specs.Counts.{LinkedBy}
use Rattle.stage_moves.specs.Moves.{SomeFails}
use Rattle.driver_turns.specs.Turns.{StageFailed, WorkedTo}
use Rattle.join_index.specs.Keys.{IndexedRows}
use Rattle.driver_ends.specs.Deals.{IsDealt}
use Rattle.driver_ends.specs.Targets.{IsFinished}
use Rattle.driver_loop.specs.declared.run_fault.RunFault.{RunFault}
use Rattle.driver_loop.specs.declared.run_fault.RunFault.TheVariants.{ExprFailed, Memory}
use Rattle.driver_loop.specs.declared.stage.Stage.{Stage}
use Rattle.driver_loop.specs.declared.target.Target.{Target}
use Rattle.driver_loop.specs.declared.target.Target.TheVariants.{Result, Build, Put, Deal}
use Rattle.driver_loop.specs.contracts.stage.StageOperator.TheImpl.{ghosts}
use Rattle.driver_loop.specs.BuildFilters.{IsFilterOf, IsPublishedPart}
use Rattle.driver_loop.specs.Sources.{Source}
use Rattle.driver_loop.specs.Ends.{rows_taken, has_ended, is_told, source_dues, source_misses, target_dues, target_finished, was_given}

-- its number, its parts, how many units it counted, and how its last turn ended it
pub record DriverState : Type 0 where
  pub number : ℕ
  pub source : Source
  pub stages : List Stage
  pub target : Target
  pub work : ℕ
  pub is_finished : Bool
  pub fault : Option RunFault

-- it did not fail for want of memory
abbrev pub IsWhole : Option RunFault → Type 0
IsWhole None = Unit {0}
IsWhole (Some (ExprFailed node kind)) = Unit {0}
IsWhole (Some Memory) = ⊥

-- the work is the number of these rows, where the target was given those, and of asks in vain, no more than its source
-- counted of these, up to the most that the count holds
pub record HasCounted (d : DriverState) (given : List Row) : Type 0 where
  pub rows : ℕ
  pub asks : ℕ
  pub entered : LinkedBy ghosts d.stages (rows_taken d.source) given rows
  pub within : source_misses d.source < most_count → asks ≤ source_misses d.source
  pub work : d.work ≡ min (rows + asks) most_count

-- what its stages took and gave goes on from what it took of its source to these rows, and each was told to finish
-- only where its giver was finished, as the target was; and it is finished, or failed, as it says
pub record IsDriverTo (d : DriverState) (given : List Row) : Type 0 where
  pub links : IsWhole d.fault → Linked ghosts d.stages (rows_taken d.source) given
  pub turns : IsWhole d.fault → ToldInTurn ghosts (has_ended d.source) d.stages
  pub told : IsWhole d.fault → is_told d.target ≡ true → last_finished ghosts (has_ended d.source) d.stages ≡ true
  pub counts : IsWhole d.fault → HasCounted d given
  pub over : d.is_finished ≡ true → (d.fault ≡ None) × (last_finished ghosts (has_ended d.source) d.stages ≡ true)
  pub failed : (node : ℕ) (kind : Fail) → d.fault ≡ Some (ExprFailed node kind) → SomeFails ghosts d.stages node kind

-- so it is to rows that its target was given
pub record IsDriver (d : DriverState) : Type 0 where
  pub rows : List Row
  pub given : IsWhole d.fault → was_given d.target rows
  pub goes : IsDriverTo d rows

-- Its source had ended, and these rows are what its stages, as they were made, may give for what it took. Nothing of it
-- fails.
pub record IsOverTo (d : DriverState) (given : List Row) : Type 0 where
  pub ended : has_ended d.source ≡ true
  pub chain : Chain ghosts true (map ghosts.as_made d.stages) (rows_taken d.source) given

-- so it is to rows that its target was given
pub record IsOver (d : DriverState) : Type 0 where
  pub rows : List Row
  pub given : was_given d.target rows
  pub over : IsOverTo d rows

-- A build has its rows: once they were published its note knows them, and before that nothing, unless its cell held
-- another source. So it is of the domains of its filters, which are those of its rows, and are published before these.
-- Edges have all rows, and their Ends.
abbrev pub IsBuiltAs : Bool → Target → Type 0
IsBuiltAs is_finished (Result result) = Unit {0}
IsBuiltAs is_finished (Build build) =
    (build.is_lost ≡ false)
    × (build.is_published ≡ is_finished)
    × ((x : IndexedRows) → build.note.known ≡ Some x → build.note.refused ≡ 0 → (is_finished ≡ true) × (x ≡ build.source))
    × (is_finished ≡ true → build.note.known ≡ Some build.source)
    × All (IsFilterOf build.source.rows build.is_told) build.filters
    × (is_finished ≡ true → All IsPublishedPart build.filters)
IsBuiltAs is_finished (Put put) = (target_finished (Put put) ≡ is_finished) × (is_finished ≡ true → IsFinished put)
IsBuiltAs is_finished (Deal deal) = (target_finished (Deal deal) ≡ is_finished) × (is_finished ≡ true → IsDealt deal)

-- where its target is a build, it was published where it is finished, and only there; and where it puts to edges, they
-- have all rows and Ends where it is finished, and only there
abbrev pub IsBuilt : DriverState → Type 0
IsBuilt d = IsBuiltAs d.is_finished d.target

-- one of its stages, as it was made, fails with this kind on what the stages before it gave, whatever rows still come
abbrev pub HasFailed : DriverState → ℕ → Fail → Type 0
HasFailed d node kind = StageFailed ghosts d.stages (has_ended d.source) (rows_taken d.source) node kind

-- whatever rows still come, and whatever the notes of its stages come to know, it can go on from these rows
abbrev pub CanGoOnFrom : DriverState → List Row → Type 0
CanGoOnFrom d given =
    (made : List Stage) (Z : List Row) → AreMadeOf ghosts d.stages made → Coming (has_ended d.source) Z
    → GoesOn ghosts made (rows_taken d.source) given Z (last_finished ghosts (has_ended d.source) d.stages)

-- so it can from rows that its target was given
pub record CanGoOn (d : DriverState) : Type 0 where
  pub rows : List Row
  pub given : was_given d.target rows
  pub on : CanGoOnFrom d rows

-- what its stages took and gave goes on from the one state, where its target was given Y, to the other; they came from
-- what they came from; and so many units were counted
abbrev pub WorkedFrom : DriverState → DriverState → List Row → ℕ → Type 0
WorkedFrom d e Y units =
    WorkedTo ghosts (was_given e.target) d.stages e.stages (rows_taken d.source) (rows_taken e.source) Y (has_ended d.source) (has_ended e.source) (source_misses d.source) (source_misses e.source) units

-- it went on from whatever its target was given, its stages came from what they came from, and its work is as much more
-- as units were counted, up to the most that the count holds
pub record HasWorked (d e : DriverState) : Type 0 where
  pub units : ℕ
  pub went : (Y : List Row) → was_given d.target Y → WorkedFrom d e Y units
  pub came : (made : List Stage) → AllCameFrom ghosts made d.stages → AllCameFrom ghosts made e.stages
  pub work : e.work ≡ min (d.work + units) most_count

-- how often this bell was to be rung for what its source took and its target did
abbrev pub driver_dues : DriverState → ℕ → ℕ
driver_dues d bell = source_dues d.source bell + target_dues d.target bell
