-- The first halves of steps, each as the last step of the pipe that is read by its second half.
use Rattle.std.specs.Prelude.{ℕ, List}
use Rattle.sql_values.specs.declared.types.SqlType.{SqlType}
use Rattle.plan_run_laws.specs.HalvedSteps.{HalvedForm}
use Rattle.plan_run_laws.specs.Stages.{Stage, first_half}
use Rattle.pipe_laws.specs.Trees.{types_between}
use Rattle.plan_layout.specs.Pipes.{StepForm}
use Rattle.net_laws.specs.RunPipes.{partial_step}

-- the step, by the number of its node
abbrev pub half_step : HalvedForm → ℕ → StepForm
half_step half id = partial_step half id

abbrev pub half_stage : HalvedForm → List SqlType → Stage
half_stage half types = first_half types half

-- the types of what it gives over rows of some types
abbrev pub half_types : HalvedForm → List SqlType → List SqlType
half_types half types = types_between types half
