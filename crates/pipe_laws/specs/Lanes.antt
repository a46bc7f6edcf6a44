-- The drivers of a node's pipeline in all tasks of its fragment, each with operators of its own.
use Rattle.std.specs.Prelude.{◌≡◌, ℕ, ◌<◌, List, [], ◌∷◌, ◌++◌, Bool, true, Option, None}
use Rattle.sql_values.specs.declared.fail.Fail.{Fail}
use Rattle.sql_values.specs.declared.types.SqlType.{SqlType}
use Rattle.col_pages.specs.Fits.{AllFit}
use Rattle.operator_core.specs.declared.operator.Operator.{Ghosts}
use Rattle.operator_core.specs.Rows.{Row}
use Rattle.operator_core.specs.Stages.{Linked, Steps, ToldInTurn, last_finished}
use Rattle.plan_run_laws.specs.Nets.{Lanes}
use Rattle.plan_run_laws.specs.Stages.{Stage}
use Rattle.plan_run_laws.specs.RunPlans.{RunPlan, scan, values, remote, step, halves, join, union}
use Rattle.plan_run_laws.specs.Stops.{Flags, Notes}
use Rattle.stage_meanings.specs.Meanings.{Means}
use Rattle.stage_meanings.specs.Pipelines.{FailsOn, NodeStage}
use Rattle.pipe_laws.specs.Operators.{Operate, types_of_source}

-- what the notes of a driver know of the right sides of its joins, from the node down
abbrev pub Noted : Type 0
Noted = List (Option (List Row))

-- there is a note for each join along the left sides, and no other
abbrev pub HasNotes : RunPlan → Noted → Type 0
HasNotes (scan id table columns types) notes = notes ≡ []
HasNotes (values id types rows) notes = notes ≡ []
HasNotes (remote id output tasks input) notes = notes ≡ []
HasNotes (step id s input) notes = HasNotes input notes
HasNotes (join id kind on left right) [] = ⊥
HasNotes (join id kind on left right) (noted ∷ notes) = HasNotes left notes
HasNotes (halves id source output m h input) notes = notes ≡ []
HasNotes (union id left right) notes = notes ≡ []

-- A driver whose operators are the stages of the node's pipeline: they took and gave these rows, each was told to
-- finish in turn, and the rows that it took have the types of its source. `ended` is whether its source has ended, and
-- `done` whether its last operator is finished.
pub record IsLane {S : Type 0} (g : Ghosts S) (run : RunPlan) (notes : Noted) (all : List S) (took gave : List Row) (ended done : Bool) : Type 0 where
  pub given : List SqlType
  pub operate : Operate g run notes all given
  pub noted : HasNotes run notes
  pub turns : ToldInTurn g ended all
  pub linked : Linked g all took gave
  pub fit : AllFit (types_of_source run) took
  pub done_is : last_finished g ended all ≡ done

-- so it is of each driver of each task
abbrev pub AreLanes : {S : Type 0} → Ghosts S → ℕ → ℕ → RunPlan → (ℕ → ℕ → Noted) → (ℕ → ℕ → List S) → Lanes → Lanes → Flags → Flags → Type 0
AreLanes g n w run notes all took gave ended done =
    (k d : ℕ) → k < n → d < w → IsLane g run (notes k d) (all k d) (took k d) (gave k d) (ended k d) (done k d)

-- one more operator stands behind those of the node: the first half of one whose second half stands in the fragment that
-- reads this one. The rows `came` came to it, and `told` is whether the operator before it is finished
pub record IsHalved {S : Type 0} (g : Ghosts S) (run : RunPlan) (notes : Noted) (half : NodeStage) (all : List S) (took gave : List Row) (ended done : Bool) : Type 0 where
  pub before : List S
  pub last : S
  pub are : all ≡ before ++ last ∷ []
  pub came : List Row
  pub told : Bool
  pub lane : IsLane g run notes before took came ended told
  pub given : List SqlType
  pub means : Means g (g.as_made last) lane.given (half ∷ []) given
  pub steps : Steps g last came gave
  pub turn : g.is_told last ≡ true → told ≡ true
  pub done_is : g.is_finished last ≡ done

abbrev pub AreHalved : {S : Type 0} → Ghosts S → ℕ → ℕ → RunPlan → (ℕ → ℕ → Noted) → NodeStage → (ℕ → ℕ → List S) → Lanes → Lanes → Flags → Flags → Type 0
AreHalved g n w run notes half all took gave ended done =
    (k d : ℕ) → k < n → d < w → IsHalved g run (notes k d) half (all k d) (took k d) (gave k d) (ended k d) (done k d)

-- whatever rows a stage takes, it does not fail on them
abbrev pub NeverFails : Stage → Type 0
NeverFails stage = (kind : Fail) (rows : List Row) → FailsOn stage kind rows → ⊥

-- the first of some notes, and the others
abbrev pub first_note : Noted → Option (List Row)
first_note [] = None
first_note (noted ∷ notes) = noted

abbrev pub other_notes : Noted → Noted
other_notes [] = []
other_notes (noted ∷ notes) = notes

-- the notes of all drivers, join by join
abbrev pub notes_of_lanes : RunPlan → (ℕ → ℕ → Noted) → Notes
notes_of_lanes (scan id table columns types) notes = []
notes_of_lanes (values id types rows) notes = []
notes_of_lanes (remote id output tasks input) notes = []
notes_of_lanes (step id s input) notes = notes_of_lanes input notes
notes_of_lanes (join id kind on left right) notes =
    (λ k d. first_note (notes k d)) ∷ notes_of_lanes left (λ k d. other_notes (notes k d))
notes_of_lanes (halves id source output m h input) notes = []
notes_of_lanes (union id left right) notes = []
