-- A plan of one join, and what its pipeline is.
use Rattle.std.proofs.Common.{◌≡◌, ℕ, List, [], ◌∷◌, Bool, Option, None, refl}
use Rattle.sql_values.specs.declared.types.SqlType.TheVariants as type
use Rattle.sql_values.specs.declared.fail.Fail.{Fail}
use Rattle.sql_values.specs.declared.relational.JoinKind.TheVariants.{Inner}
use Rattle.sql_exprs.specs.Forms.{Form, column}
use Rattle.operator_core.specs.Rows.{Row}
use Rattle.plan_run_laws.specs.Stages as stage
use Rattle.plan_run_laws.specs.RunPlans.{RunPlan, filter, join, limit, project, scan}
use Rattle.stage_meanings.specs.Pipelines.{at_node}
use Rattle.pipe_laws.specs.Trees.{stages_over}
use Rattle.pipe_laws.specs.Stopped.{AgreeWith, FailsAt}
use Rattle.pipe_laws.specs.Operators.{AreKnown, types_of_source}

-- a table of one column
abbrev left : RunPlan
left = scan 1 0 (0 ∷ []) (type.Bigint ∷ [])

-- one of two columns
abbrev right : RunPlan
right = scan 2 1 (0 ∷ 1 ∷ []) (type.Varchar ∷ type.Date ∷ [])

abbrev columns : List Form
columns = column 2 ∷ []

abbrev plan : RunPlan
plan = limit 5 7 (project 4 columns (join 3 Inner ((0, 0) ∷ []) left right))

-- the stages go from the source to the root, each with its node; a probe has the widths of left and right
pipeline : (built : List Row)
    → stages_over plan (built ∷ []) ≡ at_node 3 (stage.probe Inner ((0, 0) ∷ []) 1 2 built)
    ∷ at_node 4 (stage.project (type.Bigint ∷ type.Varchar ∷ type.Date ∷ []) columns) ∷ at_node 5 (stage.limit (type.Date ∷ []) 7) ∷ []
pipeline built = refl

source_types : types_of_source plan ≡ type.Bigint ∷ []
source_types = refl

-- a note that knows nothing knows no build, and agrees with any
unknown : (built : List Row) → AreKnown (None ∷ []) (built ∷ []) → ⊥
unknown built known = known

agrees : (built : List Row) → AgreeWith (None ∷ []) (built ∷ [])
agrees built = tt

-- what fails in the right side is no failure of the pipeline
right_fails : (predicate : Form) (noted : Option (List Row)) (took : List Row) (ended : Bool) (node : ℕ) (kind : Fail)
    → FailsAt (join 3 Inner [] left (filter 6 predicate right)) (noted ∷ []) took ended node kind → ⊥
right_fails predicate noted took ended node kind fails = fails
