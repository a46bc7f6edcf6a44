-- The pipeline of a node of a plan as it runs. It goes along inputs and left sides; the right side of a join is a
-- pipeline of its own.
use Rattle.std.specs.Prelude.{List, [], ◌∷◌, ◌++◌}
use Rattle.sql_values.specs.declared.types.SqlType.{SqlType}
use Rattle.operator_core.specs.Rows.{Row}
use Rattle.plan_trees.specs.Allowed.{width_of}
use Rattle.plan_trees.specs.Layouts.{partial_types}
use Rattle.plan_trees.specs.TreeTypes.{types_of}
use Rattle.plan_run_laws.specs.HalvedSteps.{HalvedForm}
use Rattle.plan_run_laws.specs.HalvedSteps as halved
use Rattle.plan_run_laws.specs.Stages.{second_half}
use Rattle.plan_run_laws.specs.Stages as stage
use Rattle.plan_run_laws.specs.RunPlans.{RunPlan, tree_of_run, scan, values, remote, step, halves, join, union}
use Rattle.stage_meanings.specs.Pipelines.{NodeStage, at_node}

-- rows for each join along the left sides, from the node down
abbrev pub AreBuilds : RunPlan → List (List Row) → Type 0
AreBuilds (scan id table columns types) builds = Unit {0}
AreBuilds (values id types rows) builds = Unit {0}
AreBuilds (remote id output tasks input) builds = Unit {0}
AreBuilds (step id s input) builds = AreBuilds input builds
AreBuilds (join id kind on left right) [] = ⊥
AreBuilds (join id kind on left right) (built ∷ builds) = AreBuilds left builds
AreBuilds (halves id source output m h input) builds = Unit {0}
AreBuilds (union id left right) builds = Unit {0}

-- the types of the rows between the halves of a step over rows of these
abbrev pub types_between : List SqlType → HalvedForm → List SqlType
types_between types (halved.aggregate keys calls) = partial_types types keys calls
types_between types h = types

-- the stages of the node's pipeline, from its source on, over the rows that its joins built. Where a node merges halves
-- its source is the edge between them
abbrev pub stages_over : RunPlan → List (List Row) → List NodeStage
stages_over (scan id table columns types) builds = []
stages_over (values id types rows) builds = []
stages_over (remote id output tasks input) builds = []
stages_over (step id s input) builds = stages_over input builds ++ at_node id (stage.does (types_of (tree_of_run input)) s) ∷ []
stages_over (halves id source output tasks h input) builds = at_node id (second_half (types_of (tree_of_run input)) h) ∷ []
stages_over (join id kind on left right) [] = []
stages_over (join id kind on left right) (built ∷ builds) =
    stages_over left builds ++ at_node id (stage.probe kind on (width_of (tree_of_run left)) (width_of (tree_of_run right)) built) ∷ []
stages_over (union id left right) builds = []
