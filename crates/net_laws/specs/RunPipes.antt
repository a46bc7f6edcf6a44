-- That the pipes of a layout run a plan as it runs: each node of it stands in a pipe, along inputs and left sides with the
-- nodes below, and where it has to see all rows of its task the pipe has one driver there.
use Rattle.std.specs.Prelude.{◌≡◌, ◌<◌, ℕ, List, [], ◌∷◌, map, slice_get, Some}
use Rattle.plan_docs.specs.declared.plan.Output.{Output}
use Rattle.plan_trees.specs.TreeForms.{pair_view}
use Rattle.plan_run_laws.specs.Nets.{IsAlone}
use Rattle.plan_run_laws.specs.RunPlans.{RunPlan}
use Rattle.plan_run_laws.specs.RunPlans as plan
use Rattle.plan_run_laws.specs.HalvedSteps.{HalvedForm, whole_step}
use Rattle.plan_run_laws.specs.HalvedSteps as halved
use Rattle.plan_run_laws.specs.Stages.{MayHave}
use Rattle.plan_spreads.specs.Runs.{output_view}
use Rattle.plan_layout.specs.Pipes.{BuildForm, PipeForm, SourceForm, StepForm, TargetForm, table, rows, sides, fragment, does, probe, partial, final, cell, side, readers}
use Rattle.plan_layout.specs.Runs.{EndsWith, HasScan}

-- what is built is the right side of this join
pub record IsRightSide (id : ℕ) (on : List (ℕ × ℕ)) (build : BuildForm) : Type 0 where
  pub join : build.join ≡ id
  pub pairs : map pair_view build.on ≡ on

-- what is said of a pipe by its place, the drivers in a task, the source and the steps
abbrev pub OfPipe : Type 1
OfPipe = ℕ → ℕ → SourceForm → List StepForm → Type 0

-- at a place of the layout is a pipe in so many tasks, with the target
pub record PipeIn (layout : List PipeForm) (n : ℕ) (target : TargetForm) (at : ℕ) (Is : OfPipe) : Type 0 where
  pub pipe : PipeForm
  pub is : slice_get layout at ≡ Some pipe
  pub tasks : pipe.tasks ≡ n
  pub has : pipe.target ≡ target
  pub so : Is at pipe.drivers pipe.source pipe.steps

-- the pipe at a place takes the rows of a fragment with this output, whose root is in a pipe of so many tasks
pub record Takes (layout : List PipeForm) (own : ℕ) (source : SourceForm) (output : plan.Output) (m : ℕ) (Is : OfPipe) : Type 0 where
  pub number : ℕ
  pub is : source ≡ fragment number
  pub form : Output
  pub sent : output_view form ≡ output
  pub at : ℕ
  pub root : PipeIn layout m (readers form own) at Is

-- with the step of the PARTIAL node that is the root
abbrev pub Into : (ℕ → StepForm) → OfPipe → OfPipe
Into step Is own w source steps = (half : ℕ) × EndsWith (Is own w source) (step half ∷ []) steps

-- the halves of an aggregate; those of another step both do what the whole does
abbrev pub partial_step : HalvedForm → ℕ → StepForm
partial_step (halved.aggregate keys calls) id = partial id keys calls
partial_step h id = does id (whole_step h)

abbrev pub final_step : HalvedForm → ℕ → StepForm
final_step (halved.aggregate keys calls) id = final id keys calls
final_step h id = does id (whole_step h)

abbrev pub Alone : OfPipe → OfPipe
Alone Is own w source steps = IsAlone w × Is own w source steps

-- the pipe runs the plan in n tasks: it takes from this source, and its steps are those of the nodes from there up to
-- this one; and the pipes that begin below run what they begin with
abbrev pub RunsAs : List PipeForm → ℕ → RunPlan → OfPipe
RunsAs layout n (plan.scan id place columns types) own w source steps =
    (source ≡ table place columns types) × (steps ≡ []) × HasScan layout own (Some id)
RunsAs layout n (plan.values id types list) own w source steps = IsAlone w × (source ≡ rows types list) × (steps ≡ [])
RunsAs layout n (plan.remote id output m input) own w source steps = (steps ≡ []) × Takes layout own source output m (RunsAs layout m input)
RunsAs layout n (plan.step id s input) own w source steps = MayHave s w × EndsWith (RunsAs layout n input own w source) (does id s ∷ []) steps
RunsAs layout n (plan.halves id remote output m h input) own w source steps =
    IsAlone w × (steps ≡ final_step h id ∷ []) × Takes layout own source output m (Into (partial_step h) (RunsAs layout m input))
RunsAs layout n (plan.join id kind on left right) own w source steps =
    (at : ℕ) × (build : BuildForm) × IsRightSide id on build × PipeIn layout n (cell build) at (Alone (RunsAs layout n right))
    × EndsWith (RunsAs layout n left own w source) (probe id kind build.on at ∷ []) steps
RunsAs layout n (plan.union id left right) own w source steps =
    IsAlone w × (source ≡ sides) × (steps ≡ [])
    × (first : (i : ℕ) × PipeIn layout n (side own) i (RunsAs layout n left))
    × (second : (j : ℕ) × PipeIn layout n (side own) j (RunsAs layout n right))
    × (first.0 < second.0)
