-- The drivers of a run: each takes rows from its source and gives rows through its stages.
use Rattle.std.specs.Prelude.{◌≡◌, ℕ, ◌<◌, List, [], ◌∷◌, ◌++◌}
use Rattle.sql_values.specs.declared.value.Value.{Value}
use Rattle.bag_laws.specs.Gather.{gather}
use Rattle.bag_laws.specs.Laws.{TaskRows}
use Rattle.bag_laws.specs.Weights.{SameWeights}
use Rattle.plan_trees.specs.Allowed.{Mode, scanned, width_of}
use Rattle.plan_trees.specs.TreeTypes.{types_of}
use Rattle.plan_run_laws.specs.RunPlans.{Output, RunPlan, tree_of_run}
use Rattle.plan_run_laws.specs.RunPlans as plan
use Rattle.plan_run_laws.specs.Runs.{EdgePassed}
use Rattle.plan_run_laws.specs.Spreads.{Tables}
use Rattle.plan_run_laws.specs.Stages.{Makes, MayHave, Stage, StagesMake, does, first_half, probe, second_half}
pub use Rattle.plan_run_laws.specs.Stages.{IsAlone}

-- the rows of each driver of each task
abbrev pub Lanes : Type 0
Lanes = ℕ → ℕ → List (List Value)

-- the drivers of a task together
abbrev pub of_tasks : ℕ → Lanes → TaskRows
of_tasks drivers lanes k = gather drivers (lanes k)

-- the stages end with this one, behind stages that are for the input
abbrev pub EndsWith : (List Stage → Type 0) → Stage → List Stage → Type 0
EndsWith IsForInput stage stages =
    (rest : List Stage) × (stages ≡ rest ++ stage ∷ []) × IsForInput rest

-- the stages of the pipeline of a node in task k. The builds are the rows that the joins along
-- the left sides built in each task, from the node down; a probe has them in any order
abbrev pub AreFor : RunPlan → List TaskRows → ℕ → List Stage → Type 0
AreFor (plan.scan id table columns types) builds k stages = stages ≡ []
AreFor (plan.values id types rows) builds k stages = stages ≡ []
AreFor (plan.remote id output m input) builds k stages = stages ≡ []
AreFor (plan.step id s input) builds k stages =
    EndsWith (AreFor input builds k) (does (types_of (tree_of_run input)) s) stages
AreFor (plan.halves id source output m h input) builds k stages =
    stages ≡ second_half (types_of (tree_of_run input)) h ∷ []
AreFor (plan.join id kind on left right) [] k stages = ⊥
AreFor (plan.join id kind on left right) (build ∷ builds) k stages =
    (built : List (List Value)) × SameWeights (build k) built
    × EndsWith (AreFor left builds k)
    (probe kind on (width_of (tree_of_run left)) (width_of (tree_of_run right)) built) stages
AreFor (plan.union id left right) builds k stages = stages ≡ []

-- each driver of the node's pipeline gave what its stages make of the rows that it took
abbrev pub Went : Mode → ℕ → ℕ → RunPlan → List TaskRows → Lanes → Lanes → Type 0
Went mode n drivers node builds took gave =
    (k d : ℕ) → k < n → d < drivers
    → (stages : List Stage) × AreFor node builds k stages × StagesMake mode stages (took k d) (gave k d)

-- the same with one more stage, of the PARTIAL node that is the fragment's root
abbrev pub WentInto : Stage → Mode → ℕ → ℕ → RunPlan → List TaskRows → Lanes → Lanes → Type 0
WentInto stage mode n drivers node builds took gave =
    (between : Lanes) × Went mode n drivers node builds took between
    × ((k d : ℕ) → k < n → d < drivers → Makes mode stage (between k d) (gave k d))

-- the pipeline of a node, in all tasks of its fragment: its drivers in each task, the builds,
-- and what each driver took and gave
pub record Pipe : Type 0 where
  pub drivers : ℕ
  pub builds : List TaskRows
  pub took : Lanes
  pub gave : Lanes

-- what the sources of a node's pipeline, with `w` drivers in each of `n` tasks, gave these
-- drivers, and all pipelines below. Where a node has to see all rows of its task there is one
-- driver
abbrev pub Below : Mode → Tables → ℕ → ℕ → RunPlan → List TaskRows → Lanes → Type 0
Below mode tables n w (plan.scan id table columns types) builds took =
    SameWeights (gather n (of_tasks w took)) (scanned tables table columns)
Below mode tables n w (plan.values id types rows) builds took =
    (k : ℕ) → k < n → SameWeights (of_tasks w took k) rows
Below mode tables n w (plan.remote id output m input) builds took =
    (p : Pipe) × Below mode tables m p.drivers input p.builds p.took
    × Went mode m p.drivers input p.builds p.took p.gave
    × EdgePassed output m n (of_tasks p.drivers p.gave) (of_tasks w took)
Below mode tables n w (plan.step id s input) builds took =
    MayHave s w × Below mode tables n w input builds took
Below mode tables n w (plan.halves id source output m h input) builds took =
    (p : Pipe) × IsAlone w × Below mode tables m p.drivers input p.builds p.took
    × WentInto (first_half (types_of (tree_of_run input)) h) mode m p.drivers input p.builds p.took p.gave
    × EdgePassed output m n (of_tasks p.drivers p.gave) (of_tasks w took)
Below mode tables n w (plan.join id kind on left right) [] took = ⊥
Below mode tables n w (plan.join id kind on left right) (build ∷ builds) took =
    (p : Pipe) × Below mode tables n p.drivers right p.builds p.took
    × Went mode n p.drivers right p.builds p.took p.gave
    × ((k : ℕ) → k < n → SameWeights (of_tasks p.drivers p.gave k) (build k))
    × Below mode tables n w left builds took
Below mode tables n w (plan.union id left right) builds took =
    (p : Pipe) × (q : Pipe)
    × Below mode tables n p.drivers left p.builds p.took
    × Went mode n p.drivers left p.builds p.took p.gave
    × Below mode tables n q.drivers right q.builds q.took
    × Went mode n q.drivers right q.builds q.took q.gave
    × ((k : ℕ) → k < n
    → SameWeights (of_tasks p.drivers p.gave k ++ of_tasks q.drivers q.gave k) (of_tasks w took k))
