-- The operators of a driver, one for each stage of a node's pipeline.
use Rattle.std.specs.Prelude.{◌≡◌, ℕ, Bool, List, [], ◌∷◌, ◌++◌, Option, Some, None, false, length, true}
use Rattle.sql_values.specs.declared.fail.Fail.{Fail}
use Rattle.sql_values.specs.declared.types.SqlType.{SqlType}
use Rattle.sql_values.specs.declared.relational.JoinKind.{JoinKind}
use Rattle.relation_laws.specs.Joins.{join_of}
use Rattle.col_pages.specs.Fits.{AllFit}
use Rattle.operator_core.specs.declared.operator.Operator.{Ghosts}
use Rattle.operator_core.specs.Rows.{Row}
use Rattle.operator_core.specs.Stages.{Steps}
use Rattle.bag_laws.specs.Weights.{SameWeights}
use Rattle.plan_trees.specs.Allowed.{width_of}
use Rattle.plan_trees.specs.TreeTypes.{types_of}
use Rattle.plan_run_laws.specs.Stages.{second_half}
use Rattle.plan_run_laws.specs.Stages as stage
use Rattle.plan_run_laws.specs.RunPlans.{RunPlan, tree_of_run, scan, values, remote, step, halves, join, union}
use Rattle.plan_run_laws.specs.Stops.{StagesCanGoOn}
use Rattle.stage_meanings.specs.Meanings.{Means}
use Rattle.stage_meanings.specs.Pipelines.{NodeStage, at_node, stages_of}
use Rattle.pipe_laws.specs.Trees.{types_between}

-- the types of the rows of the source of the node's pipeline: between halves, those of the first half
abbrev pub types_of_source : RunPlan → List SqlType
types_of_source (scan id table columns types) = types
types_of_source (values id types rows) = types
types_of_source (remote id output tasks input) = types_of (tree_of_run input)
types_of_source (step id s input) = types_of_source input
types_of_source (halves id source output tasks h input) = types_between (types_of (tree_of_run input)) h
types_of_source (join id kind on left right) = types_of_source left
types_of_source (union id left right) = types_of (tree_of_run left)

-- the last operator is so over rows of some types, and those before it are for the input
pub record EndsIn {S : Type 0} (AreForInput : List S → List SqlType → Type 0) (IsLast : S → List SqlType → Type 0) (all : List S) : Type 0 where
  pub before : List S
  pub last : S
  pub between : List SqlType
  pub are : all ≡ before ++ last ∷ []
  pub input : AreForInput before between
  pub is : IsLast last between

-- the operator looks rows up for a join. Where its note knows them it is the probe of them, in any order; where it
-- does not it gave nothing, and can go on as the probe of whatever they are. It never fails
pub record LooksUp {S : Type 0} (g : Ghosts S) (s : S) (noted : Option (List Row)) (taken : List SqlType) (probe : List Row → NodeStage) (given : List SqlType) : Type 0 where
  pub means : (rows built : List Row) → noted ≡ Some rows → SameWeights built rows → Means g (g.as_made s) taken (probe built ∷ []) given
  pub goes_on : noted ≡ None → (built X Y : List Row) (ended : Bool) → AllFit taken X → Steps g s X Y → (g.is_told s ≡ true → ended ≡ true)
      → StagesCanGoOn (stages_of (probe built ∷ [])) X Y ended (g.is_finished s)
  pub idle : noted ≡ None → (X Y : List Row) → Steps g s X Y → Y ≡ []
  pub calm : (X : List Row) (node : ℕ) (kind : Fail) → g.may_still_fail (g.as_made s) X node kind → ⊥

-- the operator waits for a note. Where that knows rows, which fit some types, it gives their join with the rows that
-- come; it never fails
pub record Probes {S : Type 0} (g : Ghosts S) (s : S) (noted : Option (List Row)) (kind : JoinKind) (on : List (ℕ × ℕ)) (left : ℕ) (right : List SqlType) : Type 0 where
  pub waits : g.waits s ≡ true
  pub unknown : noted ≡ None → g.knows s ≡ false
  pub gives : (rows : List Row) → noted ≡ Some rows → (X Y : List Row) → g.may_give (g.as_made s) X Y → Y ≡ join_of kind on left (length right) X rows
  pub fits : (rows : List Row) → noted ≡ Some rows → AllFit right rows
  pub calm : (X : List Row) (node : ℕ) (kind : Fail) → g.may_still_fail (g.as_made s) X node kind → ⊥

-- the pipeline has no operator
abbrev pub NoOperator : {S : Type 0} → List SqlType → List S → List SqlType → Type 0
NoOperator types all given = (all ≡ []) × (types ≡ given)

-- each operator is the stage of a node, from the source on
abbrev pub Operate : {S : Type 0} → Ghosts S → RunPlan → List (Option (List Row)) → List S → List SqlType → Type 0
Operate g (scan id table columns types) notes all given = NoOperator types all given
Operate g (values id types rows) notes all given = NoOperator types all given
Operate g (remote id output tasks input) notes all given = NoOperator (types_of (tree_of_run input)) all given
Operate g (step id s input) notes all given =
    EndsIn (Operate g input notes) (λ last between. Means g (g.as_made last) between (at_node id (stage.does (types_of (tree_of_run input)) s) ∷ []) given) all
Operate g (halves id source output tasks h input) notes all given =
    EndsIn (NoOperator (types_between (types_of (tree_of_run input)) h))
    (λ last between. Means g (g.as_made last) between (at_node id (second_half (types_of (tree_of_run input)) h) ∷ []) given) all
Operate g (join id kind on left right) [] all given = ⊥
Operate g (join id kind on left right) (noted ∷ notes) all given =
    EndsIn (Operate g left notes)
    (λ last between. LooksUp g last noted between (λ built. at_node id (stage.probe kind on (width_of (tree_of_run left)) (width_of (tree_of_run right)) built)) given) all
Operate g (union id left right) notes all given = NoOperator (types_of (tree_of_run left)) all given

-- the notes know all builds
abbrev pub AreKnown : List (Option (List Row)) → List (List Row) → Type 0
AreKnown [] builds = Unit {0}
AreKnown (noted ∷ notes) [] = ⊥
AreKnown (None ∷ notes) (built ∷ builds) = ⊥
AreKnown (Some known ∷ notes) (built ∷ builds) = (built ≡ known) × AreKnown notes builds
