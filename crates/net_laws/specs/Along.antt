-- What is said of the joins of a pipe that runs a plan, from the node down along inputs and left sides.
use Rattle.std.specs.Prelude.{◌≡◌, ℕ, ◌<◌, List, [], ◌∷◌, Some, true}
use Rattle.operator_core.specs.Rows.{Row}
use Rattle.bag_laws.specs.Weights.{SameWeights}
use Rattle.plan_trees.specs.TreeTypes.{types_of}
use Rattle.plan_run_laws.specs.Nets.{of_tasks}
use Rattle.plan_run_laws.specs.RunPlans.{RunPlan, tree_of_run}
use Rattle.plan_run_laws.specs.RunPlans as plan
use Rattle.driver_net_laws.specs.Lanes.{Noted, first_note, other_notes}
use Rattle.driver_net_laws.specs.Pipes.{GaveTyped, PipeState}
use Rattle.plan_layout.specs.Pipes.{PipeForm, SourceForm, StepForm}
use Rattle.net_laws.specs.RunPipes.{RunsAs}
use Rattle.driver_net_laws.specs.Nets.{Links}

-- the bells of the cells of its joins, in a task
abbrev pub bells_in : (links : Links) (task : ℕ) (layout : List PipeForm) (n : ℕ) (run : RunPlan) (own w : ℕ) (source : SourceForm) (steps : List StepForm)
    → RunsAs layout n run own w source steps → List ℕ
bells_in links task layout n (plan.scan id table columns types) own w source steps r = []
bells_in links task layout n (plan.values id types list) own w source steps r = []
bells_in links task layout n (plan.remote id output m input) own w source steps r = []
bells_in links task layout n (plan.step id s input) own w source steps r = bells_in links task layout n input own w source r.1.0 r.1.2
bells_in links task layout n (plan.join id kind on left right) own w source steps r =
    links.cells r.0 task ∷ bells_in links task layout n left own w source r.4.0 r.4.2
bells_in links task layout n (plan.halves id remote output m h input) own w source steps r = []
bells_in links task layout n (plan.union id left right) own w source steps r = []

-- What is said of each of its joins: of its right side, of the place of the pipe that builds it, and of what the notes of
-- the pipe's drivers know of it
abbrev pub OfJoin : Type 1
OfJoin = RunPlan → ℕ → (ℕ → ℕ → Noted) → Type 0

abbrev pub Along : OfJoin → (layout : List PipeForm) (n : ℕ) (run : RunPlan) (own w : ℕ) (source : SourceForm) (steps : List StepForm)
    → RunsAs layout n run own w source steps → (ℕ → ℕ → Noted) → Type 0
Along Of layout n (plan.scan id table columns types) own w source steps r notes = Unit {0}
Along Of layout n (plan.values id types list) own w source steps r notes = Unit {0}
Along Of layout n (plan.remote id output m input) own w source steps r notes = Unit {0}
Along Of layout n (plan.step id s input) own w source steps r notes = Along Of layout n input own w source r.1.0 r.1.2 notes
Along Of layout n (plan.join id kind on left right) own w source steps r notes =
    Of right r.0 notes × Along Of layout n left own w source r.4.0 r.4.2 (λ k d. other_notes (notes k d))
Along Of layout n (plan.halves id remote output m h input) own w source steps r notes = Unit {0}
Along Of layout n (plan.union id left right) own w source steps r notes = Unit {0}

-- what the pipe of the right side gave has its types
abbrev pub BuiltTyped : {S : Type 0} → (ℕ → PipeState S) → ℕ → OfJoin
BuiltTyped pipes n right j notes = GaveTyped (types_of (tree_of_run right)) n (pipes j)

-- where a note knows rows, the drivers of the right side are done in its task, and gave these
abbrev pub Follows : {S : Type 0} → (ℕ → PipeState S) → ℕ → ℕ → OfJoin
Follows pipes own n right j notes =
    (k d : ℕ) → k < n → d < (pipes own).drivers → (built : List Row) → first_note (notes k d) ≡ Some built
    → ((e : ℕ) → e < (pipes j).drivers → (pipes j).done k e ≡ true) × SameWeights (of_tasks (pipes j).drivers (pipes j).gave k) built
