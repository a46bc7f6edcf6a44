-- What a turn of a driver leaves, and why it ends.
use Rattle.std.specs.Prelude.{◌≡◌, ◌⊎◌, ◌+◌, ◌<◌, ◌≤◌, ℕ, List, length, get_or, take, Bool, true, false}
use Rattle.sql_values.specs.declared.fail.Fail.{Fail}
use Rattle.count_laws.specs.Counts.{Rose, most_count}
use Rattle.blocked.specs.declared.blocked_on.BlockedOn.{BlockedOn}
use Rattle.operator_core.specs.declared.operator.Operator.{Ghosts}
use Rattle.operator_core.specs.Rows.{Row}
use Rattle.operator_core.specs.Stages.{Linked, ToldInTurn, AllCameFrom, FailsAfter}
use Rattle.stage_moves.specs.Places.{AllLater}
use Rattle.stage_moves.specs.Counts.{Counted}
use Rattle.stage_moves.specs.Looks.{Looks, HasWaited}
use Rattle.stage_moves.specs.Quiet.{AreStill, last_holds}
use Rattle.driver_turns.specs.declared.turns.Turned.{Turned}
use Rattle.driver_turns.specs.declared.turns.Turned.TheVariants.{Yield, Blocked, Finished}

-- stages that took X and gave Y, in turn behind a source that is ended or not, took A and gave B now, in
-- turn behind it as it is now; they came from what they came from before, and their notes may have learned
pub record WentOn {S : Type 0} (g : Ghosts S) (old new : List S) (X A Y B : List Row) (was is : Bool) : Type 0 where
  pub links : Linked g old X Y → Linked g new A B
  pub turns : ToldInTurn g was old → ToldInTurn g is new
  pub came : (ms : List S) → AllCameFrom g ms old → AllCameFrom g ms new
  pub later : AllLater g old new

-- a stage waits for a value that its note does not know: it looked for it since, in vain, and it is its bell
-- that is named, with a count which that bell showed, and which its last look in vain was handed
pub record StageBlocked {S : Type 0} (g : Ghosts S) (old new : List S) (shown : ℕ → ℕ → Type 0) (on : BlockedOn) : Type 0 where
  pub place : ℕ
  pub before : S
  pub after : S
  pub there : place < length new
  pub was : before ≡ get_or old place before
  pub is : after ≡ get_or new place after
  pub waits : g.waits after ≡ true
  pub unknown : g.knows after ≡ false
  pub looked : Rose (g.empty_looks before) (g.empty_looks after)
  pub bell : on.bell ≡ g.bell after
  pub seen : shown on.bell on.seen
  pub handed : g.looked_at after ≡ on.seen
  pub unrung : on.rung ≡ false

-- The target was given Y and is given more by now, and its stages went on to what it was given. So many units were
-- counted: the rows that entered the stages and the target, and asks in vain, no more than the source counted of these.
pub record WorkedTo {S : Type 0} (g : Ghosts S) (was_given : List Row → Type 0) (old new : List S) (X A Y : List Row) (was is : Bool) (missed misses units : ℕ) : Type 0 where
  pub rows : List Row
  pub given : was_given rows
  pub went : WentOn g old new X A Y rows was is
  pub entered : ℕ
  pub again : ℕ
  pub counts : Counted g old new X A Y rows entered
  pub units_are : units ≡ entered + again
  pub within : misses < most_count → missed + again ≤ misses

-- a stage waits, or the source does
abbrev pub IsHeldUp : {S : Type 0} → Ghosts S → List S → List S → Looks → Looks → (ℕ → ℕ → Type 0) → BlockedOn → Type 0
IsHeldUp g old new source_was source_is shown on = StageBlocked g old new shown on ⊎ HasWaited source_was source_is shown on

-- a stage waits or the source does, and the target was not told to finish; or the target waits
abbrev pub IsBlocked : {S : Type 0} → Ghosts S → List S → List S → Bool → Looks → Looks → Looks → Looks → (ℕ → ℕ → Type 0) → BlockedOn → Type 0
IsBlocked g old new told source_was source_is target_was target_is shown on =
    (IsHeldUp g old new source_was source_is shown on × (told ≡ false)) ⊎ HasWaited target_was target_is shown on

-- why a turn ended: enough units were counted and the target was not closed, somebody waits, or the target is finished
abbrev pub TurnedSo : (BlockedOn → Type 0) → Bool → Bool → ℕ → ℕ → Turned → Type 0
TurnedSo blocked told finished quantum units Yield = (quantum ≤ units) × (told ≡ false) × (finished ≡ false)
TurnedSo blocked told finished quantum units (Blocked on) = blocked on × (finished ≡ false)
TurnedSo blocked told finished quantum units Finished = finished ≡ true

-- no stage holds a row that the next one would take, nor the last one any that it may give, unless it is the target
-- that waits
pub record IsHalted {S : Type 0} (g : Ghosts S) (ss : List S) (target_waits : Type 0) : Type 0 where
  pub stages : AreStill g (length ss) ss
  pub last : (last_holds g ss ≡ false) ⊎ target_waits

-- what holds where a turn waits
abbrev pub WhereBlocked : (BlockedOn → Type 0) → Turned → Type 0
WhereBlocked holds Yield = Unit {0}
WhereBlocked holds (Blocked on) = holds on
WhereBlocked holds Finished = Unit {0}

-- each bell was rung as much more often as more dues of it came
abbrev pub RangDues : (old new : ℕ → ℕ → Type 0) (was is : ℕ → ℕ) → Type 0
RangDues old new was is = (bell times : ℕ) → old bell (times + was bell) → new bell (times + is bell)

-- one of the stages, as it was made, fails with this kind on what the ones before it gave of X, whatever rows still come to it
pub record StageFailed {S : Type 0} (g : Ghosts S) (stages : List S) (ended : Bool) (X : List Row) (node : ℕ) (kind : Fail) : Type 0 where
  pub place : ℕ
  pub stage : S
  pub there : place < length stages
  pub is : stage ≡ get_or stages place stage
  pub after : FailsAfter g (take place stages) (g.as_made stage) ended X node kind
