-- A stage of a driver that was made for a node of a plan.
use Rattle.std.specs.Prelude.{◌≡◌, ℕ, List, [], ◌∷◌, ◌++◌, map}
use Rattle.sql_values.specs.declared.types.SqlType.{SqlType}
use Rattle.sql_values.specs.declared.relational.JoinKind.{JoinKind}
use Rattle.hash_join.specs.Probing.{ProbeState}
use Rattle.driver_loop.specs.declared.stage.Stage.{Stage}
use Rattle.driver_loop.specs.declared.stage.Stage.TheVariants.{Probe}
use Rattle.driver_loop.specs.contracts.stage.StageOperator.TheImpl.{ghosts}
use Rattle.pipe_laws.specs.Meanings.{Means}
use Rattle.pipe_laws.specs.Pipelines.{NodeStage}
use Rattle.driver_net_laws.specs.Cells.{Names, cell_of}

-- a stage has no note that may come to know a value
abbrev pub NeverLearns : Stage → Type 0
NeverLearns stage = (later : Stage) → ghosts.may_learn stage later → ⊥

-- a stage, as it was made, is that of a node, and looks into no cell
pub record IsStageOf (at : NodeStage) (between given : List SqlType) (made : Stage) : Type 0 where
  pub means : Means ghosts made between (at ∷ []) given
  pub fixed : NeverLearns made
  pub apart : cell_of made ≡ []

-- a stage, as it was made, looks rows up in the cell of this bell, for a join of these columns
pub record ProbesFor (names : Names) (bell : ℕ) (kind : JoinKind) (on : List (ℕ × ℕ)) (made : Stage) : Type 0 where
  pub op : ProbeState
  pub types : List SqlType
  pub is : made ≡ Probe op types
  pub of_kind : op.kind ≡ kind
  pub columns : op.on ≡ map (λ (pair : ℕ × ℕ). pair.0) on
  pub rings : op.bell ≡ bell
  pub cell : op.note.cell ≡ names bell

-- a stage behind some that give rows of the types `between`
pub record IsProbeOf (names : Names) (bell : ℕ) (kind : JoinKind) (on : List (ℕ × ℕ)) (right between given : List SqlType) (made : Stage) : Type 0 where
  pub probes : ProbesFor names bell kind on made
  pub types : between ++ right ≡ given
