-- What the evaluator gives, and why it stops.
use Rattle.std.specs.Prelude.{◌≡◌, ℕ, List, Contains, Option, Some}
use Rattle.sql_values.specs.declared.value.Value.{Value}
use Rattle.sql_values.specs.declared.table.Table.{Table}
use Rattle.sql_values.specs.declared.fail.Fail.{Fail}
use Rattle.col_pages.specs.Pages.{TypedPage}
use Rattle.relation_laws.specs.Verdicts.{Verdict, fails}
use Rattle.plan_trees.specs.Steps.{StepFails, StepForm, StepGives, types_after}
use Rattle.plan_trees.specs.TreeForms.{TreeForm}
use Rattle.plan_trees.specs.TreeTypes.{types_of}
use Rattle.plan_trees.specs.Allowed.{Allows, strict}
use Rattle.plan_trees.specs.Stopped.{MayFail}
use Rattle.tree_evaluator.specs.declared.stop.EvalStop.{EvalStop}
use Rattle.tree_evaluator.specs.declared.stop.EvalStop.TheVariants as stop

abbrev pub rows_of_table : Table → List (List Value)
rows_of_table table = table.rows

-- a node failed that may fail with this kind, or memory was wanting
abbrev pub StopsFor : TreeForm → List (List (List Value)) → EvalStop → Type 0
StopsFor tree tables (stop.ExprFailed node kind) = MayFail tree tables node kind
StopsFor tree tables stop.Memory = Unit {0}

-- this node failed with this kind, or memory was wanting
abbrev pub StopsHere : ℕ → Option Fail → EvalStop → Type 0
StopsHere id failure (stop.ExprFailed node kind) = (id ≡ node) × (failure ≡ Some kind)
StopsHere id failure stop.Memory = Unit {0}

-- one of the verdicts of this node fails with this kind, or memory was wanting
abbrev pub GroupStops : ℕ → List Verdict → EvalStop → Type 0
GroupStops id verdicts (stop.ExprFailed node kind) = (id ≡ node) × Contains verdicts (fails kind)
GroupStops id verdicts stop.Memory = Unit {0}

-- rows of the tree's types that the tree allows
pub record IsEvaluated (tree : TreeForm) (tables : List (List (List Value))) (given : TypedPage) : Type 0 where
  pub types : given.types ≡ types_of tree
  pub allowed : Allows tree tables given.rows

-- rows that a step makes of these
pub record IsStepped (s : StepForm) (rows given : TypedPage) : Type 0 where
  pub types : given.types ≡ types_after s rows.types
  pub gives : StepGives strict rows.types s rows.rows given.rows

-- the step of this node failed with this kind on these rows, or memory was wanting
abbrev pub StepStops : ℕ → StepForm → TypedPage → EvalStop → Type 0
StepStops id s rows (stop.ExprFailed node kind) = (id ≡ node) × StepFails rows.types s rows.rows kind
StepStops id s rows stop.Memory = Unit {0}
