-- A driver that stands anywhere: how it can go on, and how one of its stages fails.
use Rattle.std.specs.Prelude.{◌≡◌, ◌⊎◌, ℕ, List, [], ◌∷◌, ◌++◌, Bool, Option, Some, None}
use Rattle.sql_values.specs.declared.fail.Fail.{Fail}
use Rattle.operator_core.specs.Rows.{Row}
use Rattle.bag_laws.specs.Weights.{SameWeights}
use Rattle.plan_trees.specs.TreeTypes.{types_of}
use Rattle.plan_run_laws.specs.RunPlans.{RunPlan, tree_of_run, scan, values, remote, step, halves, join, union}
use Rattle.plan_run_laws.specs.Stages.{does, second_half}
use Rattle.plan_run_laws.specs.Stops.{StagesCanGoOn, MayCome}
use Rattle.stage_meanings.specs.Pipelines.{FailsOn, stages_of}
use Rattle.pipe_laws.specs.Trees.{stages_over}

-- the builds are what the notes of a driver know, in any order; where a note knows nothing, any
abbrev pub AgreeWith : List (Option (List Row)) → List (List Row) → Type 0
AgreeWith [] builds = Unit {0}
AgreeWith (noted ∷ notes) [] = ⊥
AgreeWith (None ∷ notes) (built ∷ builds) = AgreeWith notes builds
AgreeWith (Some known ∷ notes) (built ∷ builds) = SameWeights built known × AgreeWith notes builds

-- the driver can go on, whatever comes and whatever its notes come to know
abbrev pub IsOpen : RunPlan → List (Option (List Row)) → List Row → List Row → Bool → Bool → Type 0
IsOpen run notes took gave ended done = (builds : List (List Row)) → AgreeWith notes builds → StagesCanGoOn (stages_of (stages_over run builds)) took gave ended done

-- what came to a stage fails with this kind, with whatever may still come
pub record FailsOver (Fails : List Row → Type 0) (input : RunPlan) (notes : List (Option (List Row))) (took : List Row) (ended : Bool) : Type 0 where
  pub came : List Row
  pub told : Bool
  pub opened : IsOpen input notes took came ended told
  pub fails : (more : List Row) → MayCome told more → Fails (came ++ more)

-- what came from the source fails with this kind, with whatever may still come
abbrev pub FailsOnAll : (List Row → Type 0) → List Row → Bool → Type 0
FailsOnAll Fails took ended = (more : List Row) → MayCome ended more → Fails (took ++ more)

-- a stage of the node's pipeline fails with this kind
abbrev pub FailsAt : RunPlan → List (Option (List Row)) → List Row → Bool → ℕ → Fail → Type 0
FailsAt (scan id table columns types) notes took ended node kind = ⊥
FailsAt (values id types rows) notes took ended node kind = ⊥
FailsAt (remote id output tasks input) notes took ended node kind = ⊥
FailsAt (step id s input) notes took ended node kind =
    ((id ≡ node) × FailsOver (FailsOn (does (types_of (tree_of_run input)) s) kind) input notes took ended) ⊎ FailsAt input notes took ended node kind
FailsAt (halves id source output tasks h input) notes took ended node kind =
    (id ≡ node) × FailsOnAll (FailsOn (second_half (types_of (tree_of_run input)) h) kind) took ended
FailsAt (join id how on left right) [] took ended node kind = ⊥
FailsAt (join id how on left right) (noted ∷ notes) took ended node kind = FailsAt left notes took ended node kind
FailsAt (union id left right) notes took ended node kind = ⊥
