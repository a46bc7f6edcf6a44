-- The stages of a pipeline in a task, as those of tasks and drivers that are numbered.
use Rattle.std.proofs.Common.{ℕ, List, [], ◌∷◌, ◌++◌, map, refl}
use Rattle.operator_core.specs.Rows.{Row}
use Rattle.bag_laws.specs.Laws.{TaskRows}
use Rattle.bag_laws.proofs.BagLemmas.{same-refl}
use Rattle.plan_trees.specs.Allowed.{width_of}
use Rattle.plan_trees.specs.TreeTypes.{types_of}
use Rattle.plan_run_laws.specs.Nets.{AreFor, EndsWith}
use Rattle.plan_run_laws.specs.Stages.{Stage}
use Rattle.plan_run_laws.specs.Stages as stage
use Rattle.plan_run_laws.specs.RunPlans.{RunPlan, tree_of_run, scan, values, remote, step, halves, join, union}
use Rattle.stage_meanings.specs.Pipelines.{NodeStage, at_node, stages_of}
use Rattle.stage_meanings.proofs.MeaningLemmas.{stages-append}
use Rattle.pipe_laws.specs.Trees.{AreBuilds, stages_over}

-- the rows of each build in a task
abbrev pub in_task : ℕ → List TaskRows → List (List Row)
in_task k builds = map (λ (build : TaskRows). build k) builds

ends : (IsForInput : List Stage → Type 0) (first : List NodeStage) (id : ℕ) (last : Stage) → IsForInput (stages_of first) → EndsWith IsForInput last (stages_of (first ++ at_node id last ∷ []))
ends IsForInput first id last are = (stages_of first, stages-append first (at_node id last ∷ []), are)

pub are_for : (run : RunPlan) (builds : List TaskRows) (k : ℕ) → AreBuilds run (in_task k builds) → AreFor run builds k (stages_of (stages_over run (in_task k builds)))
are_for (scan id table columns types) builds k are = refl
are_for (values id types rows) builds k are = refl
are_for (remote id output tasks input) builds k are = refl
are_for (step id s input) builds k are =
    ends (AreFor input builds k) (stages_over input (in_task k builds)) id (stage.does (types_of (tree_of_run input)) s) (are_for input builds k are)
are_for (join id kind on left right) [] k are = absurd are
are_for (join id kind on left right) (build ∷ builds) k are = (
  build k,
  same-refl (build k),
  ends (AreFor left builds k) (stages_over left (in_task k builds)) id (stage.probe kind on (width_of (tree_of_run left)) (width_of (tree_of_run right)) (build k))
      (are_for left builds k are),
)
are_for (halves id source output tasks h input) builds k are = refl
are_for (union id left right) builds k are = refl
