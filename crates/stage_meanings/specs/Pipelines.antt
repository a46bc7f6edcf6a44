-- The pipeline of a driver: the stages of a plan's nodes, one after the other, and one of them that fails.
use Rattle.std.specs.Prelude.{◌≡◌, ℕ, List, ◌∷◌, ◌++◌, Bool, map}
use Rattle.sql_values.specs.declared.value.Value.{Value}
use Rattle.sql_values.specs.declared.fail.Fail.{Fail}
use Rattle.plan_run_laws.specs.Stages.{Stage, StageFails}
use Rattle.plan_run_laws.specs.Stops.{StagesCanGoOn, MayCome}

-- a stage, and the id of its node
pub record NodeStage : Type 0 where
  pub node : ℕ
  pub stage : Stage

abbrev pub at_node : ℕ → Stage → NodeStage
at_node node stage = record { node = node; stage = stage }

abbrev pub stages_of : List NodeStage → List Stage
stages_of pipeline = map (λ s. s.stage) pipeline

-- what the stage takes fails with this kind
abbrev pub FailsOn : Stage → Fail → List (List Value) → Type 0
FailsOn stage kind rows = StageFails stage rows kind

-- the driver took these rows, and the stage of the node fails with this kind on what came to it of them, whatever
-- rows still come: none where the driver's source has ended
pub record FailsIn (pipeline : List NodeStage) (took : List (List Value)) (ended : Bool) (node : ℕ) (kind : Fail) : Type 0 where
  pub before : List NodeStage
  pub stage : Stage
  pub after : List NodeStage
  pub at : pipeline ≡ before ++ at_node node stage ∷ after
  pub came : List (List Value)
  pub told : Bool
  pub goes_on : StagesCanGoOn (stages_of before) took came ended told
  pub fails : (more : List (List Value)) → MayCome told more → FailsOn stage kind (came ++ more)
