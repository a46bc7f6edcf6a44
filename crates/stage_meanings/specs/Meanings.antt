-- What operators mean: stages of a plan's pipeline, over rows of some types. An operator is taken as it
-- was made, with what its note knows.
use Rattle.std.specs.Prelude.{◌≡◌, ◌⊎◌, ℕ, List, [], ◌∷◌, ◌++◌, Bool, true}
use Rattle.sql_values.specs.declared.types.SqlType.{SqlType}
use Rattle.sql_values.specs.declared.fail.Fail.{Fail}
use Rattle.col_pages.specs.Fits.{AllFit}
use Rattle.operator_core.specs.declared.operator.Operator.{Ghosts}
use Rattle.operator_core.specs.Rows.{Row}
use Rattle.operator_core.specs.Stages.{NothingFails}
use Rattle.plan_trees.specs.Allowed.{strict}
use Rattle.plan_run_laws.specs.Stages.{StagesMake}
use Rattle.plan_run_laws.specs.Stops.{StagesCanGoOn, MayCome}
use Rattle.stage_meanings.specs.Pipelines.{FailsIn, NodeStage, stages_of}

-- the operator took X and gave Y, and can go on, whatever comes; where it is done it gives no more, its
-- giver was done, and nothing of X fails, unless it is as its note came to know it
pub record CanGive {S : Type 0} (g : Ghosts S) (m : S) (X Y : List Row) (ended done : Bool) : Type 0 where
  pub could : (Z : List Row) → MayCome ended Z → (B : List Row) × g.may_give m (X ++ Z) (Y ++ B) × MayCome done B
  pub over : done ≡ true → ended ≡ true
  pub calm : done ≡ true → NothingFails g m X ⊎ ((s : S) × g.may_learn s m)

-- over rows of the types `taken` the operator is the stages of the pipeline, and gives rows of the types
-- `given`
pub record Means {S : Type 0} (g : Ghosts S) (m : S) (taken : List SqlType) (pipeline : List NodeStage) (given : List SqlType) : Type 0 where
  pub fits : (X Y : List Row) → AllFit taken X → g.may_give m X Y → AllFit given Y
  pub makes : (X Y : List Row) → AllFit taken X → g.may_give m X Y → NothingFails g m X → StagesMake strict (stages_of pipeline) X Y
  pub goes_on : (X Y : List Row) (ended done : Bool) → AllFit taken X → CanGive g m X Y ended done → StagesCanGoOn (stages_of pipeline) X Y ended done
  pub fails : (X : List Row) (ended : Bool) (node : ℕ) (kind : Fail) → AllFit taken X
      → ((Z : List Row) → MayCome ended Z → g.may_still_fail m (X ++ Z) node kind) → FailsIn pipeline X ended node kind

-- operators one after the other are the stages of the pipeline
abbrev pub AllMean : {S : Type 0} → Ghosts S → List S → List SqlType → List NodeStage → List SqlType → Type 0
AllMean g [] taken pipeline given = (pipeline ≡ []) × (taken ≡ given)
AllMean g (m ∷ ms) taken pipeline given =
    (first : List NodeStage) × (rest : List NodeStage) × (between : List SqlType) × (pipeline ≡ first ++ rest)
    × Means g m taken first between × AllMean g ms between rest given

-- what the first gives or fails on, or may have learned, the second does as well
pub record ActsAs {S T : Type 0} (g : Ghosts S) (m : S) (h : Ghosts T) (n : T) : Type 0 where
  pub gives : (X Y : List Row) → g.may_give m X Y → h.may_give n X Y
  pub fails : (X : List Row) (node : ℕ) (kind : Fail) → g.may_still_fail m X node kind → h.may_still_fail n X node kind
  pub calm : (X : List Row) (node : ℕ) (kind : Fail) → h.may_still_fail n X node kind → g.may_still_fail m X node kind
  pub learned : (s : S) → g.may_learn s m → (t : T) × h.may_learn t n
