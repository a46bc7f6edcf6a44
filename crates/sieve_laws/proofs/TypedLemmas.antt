-- The expressions of a run whose tree fits tables have types.
use Rattle.std.specs.Prelude.{List}
use Rattle.sql_values.specs.declared.types.SqlType.{SqlType}
use Rattle.plan_trees.specs.Steps.{StepForm, filter, project}
use Rattle.plan_trees.specs.TreeTypes.{types_of}
use Rattle.plan_run_laws.specs.RunPlans.{RunPlan, tree_of_run, scan, values, remote, step, halves, join, union}
use Rattle.plan_run_laws.specs.Spreads.{Tables}
use Rattle.pipe_laws.specs.Fits.{FitsTables, StepFits}
use Rattle.lost_row_laws.specs.Runs.{AreTyped, IsTypedStep}

typed_step : (types : List SqlType) (s : StepForm) → StepFits types s → IsTypedStep types s
typed_step types (filter predicate) fits = fits
typed_step types (project columns) fits = fits.1
typed_step types s fits = tt

pub typed : (run : RunPlan) (tables : Tables) → FitsTables (tree_of_run run) tables → AreTyped run
typed (scan id table columns types) tables fits = tt
typed (values id types rows) tables fits = tt
typed (remote id output m input) tables fits = typed input tables fits
typed (step id s input) tables fits = (typed_step (types_of (tree_of_run input)) s fits.0, typed input tables fits.1)
typed (halves id source output m h input) tables fits = typed input tables fits.1
typed (join id kind on left right) tables fits = (typed left tables fits.0, typed right tables fits.1)
typed (union id left right) tables fits = (typed left tables fits.1, typed right tables fits.2)
