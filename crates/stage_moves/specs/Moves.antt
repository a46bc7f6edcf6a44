-- What a move leaves of a list of stages.
use Rattle.std.specs.Prelude.{◌≡◌, ◌<◌, ℕ, List, [], ◌∷◌, ◌++◌, length, get_or, map, Bool, true}
use Rattle.sql_values.specs.declared.fail.Fail.{Fail}
use Rattle.operator_core.specs.declared.operator.Operator.{Ghosts}
use Rattle.operator_core.specs.Rows.{Row}
use Rattle.operator_core.specs.Calls.{FailsNow}
use Rattle.operator_core.specs.Stages.{Linked, ToldInTurn}
use Rattle.stage_moves.specs.Places.{AllStay}

-- the stages took some more rows and gave some more, and are in turn and made as before
pub record Moved {S : Type 0} (g : Ghosts S) (old new : List S) (taken given : List Row) : Type 0 where
  pub links : (X Y : List Row) → Linked g old X Y → Linked g new (X ++ taken) (Y ++ given)
  pub turns : (ended : Bool) → ToldInTurn g ended old → ToldInTurn g ended new
  pub made : map g.as_made new ≡ map g.as_made old
  pub same : AllStay g old new

-- one of the stages fails with this kind, whatever rows still come to it
pub record SomeFails {S : Type 0} (g : Ghosts S) (stages : List S) (node : ℕ) (kind : Fail) : Type 0 where
  pub place : ℕ
  pub stage : S
  pub there : place < length stages
  pub is : stage ≡ get_or stages place stage
  pub fails : FailsNow g stage node kind

-- the first stage takes a page now; without a stage a page goes past
abbrev pub first_needs : {S : Type 0} → Ghosts S → List S → Bool
first_needs g [] = true
first_needs g (s ∷ ss) = g.needs_input s

-- a page of the source can be taken now: the first stage needs one or, where there is no stage, the target wants one
abbrev pub takes_page : {S : Type 0} → Ghosts S → Bool → List S → Bool
takes_page g wants [] = wants
takes_page g wants (s ∷ ss) = g.needs_input s
