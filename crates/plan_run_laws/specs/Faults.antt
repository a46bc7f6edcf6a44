-- A driver that failed at a node, in a run that it stopped. Only the pipelines below that node
-- count.
use Rattle.std.specs.Prelude.{◌≡◌, ◌⊎◌, ℕ, ◌<◌, List, [], ◌∷◌, ◌++◌, Contains}
use Rattle.sql_values.specs.declared.value.Value.{Value}
use Rattle.sql_values.specs.declared.fail.Fail.{Fail}
use Rattle.relation_laws.specs.Verdicts.{Verdict, fails}
use Rattle.plan_trees.specs.Steps.{RowFails, StepFails}
use Rattle.plan_trees.specs.TreeTypes.{types_of}
use Rattle.plan_run_laws.specs.Nets.{Lanes}
use Rattle.plan_run_laws.specs.RunPlans.{RunPlan, tree_of_run}
use Rattle.plan_run_laws.specs.RunPlans as plan
use Rattle.plan_run_laws.specs.Spreads.{Tables}
use Rattle.plan_run_laws.specs.Stages.{MayHave, StageFails, second_half}
use Rattle.plan_run_laws.specs.Stops.{AreOpen, Flags, MayCome, Notes, StoppedPipe, Stops}

-- a row among these fails with this kind
abbrev pub FailsOnOneOf : (List Value → Verdict) → Fail → List (List Value) → Type 0
FailsOnOneOf judge kind rows = RowFails judge rows kind

-- a group of these rows fails with this kind
abbrev pub FailsOnGroupOf : (List (List Value) → List Verdict) → Fail → List (List Value) → Type 0
FailsOnGroupOf verdicts kind rows = Contains (verdicts rows) (fails kind)

-- a driver's stage over the input failed: what it took fails, with whatever it would still take
pub record FailedOver (Fails : List (List Value) → Type 0) (tables : Tables) (n w : ℕ)
    (input : RunPlan) (notes : Notes) (took : Lanes) (ended : Flags) : Type 0 where
  pub stops : Stops tables n w input notes took ended
  -- what the stages before gave in each driver, and in which of them they give no more
  pub gave : Lanes
  pub done : Flags
  pub opened : AreOpen [] n w input notes took gave ended done
  -- where it failed
  pub task : ℕ
  pub driver : ℕ
  pub in_tasks : task < n
  pub in_drivers : driver < w
  pub failed : (more : List (List Value)) → MayCome (done task driver) more
      → Fails (gave task driver ++ more)

-- a FINAL stage failed over what came from its edge
pub record FailedFinal (Fails : List (List Value) → Type 0) (tables : Tables) (n w : ℕ)
    (node : RunPlan) (notes : Notes) (took : Lanes) (ended : Flags) : Type 0 where
  pub stops : Stops tables n w node notes took ended
  pub task : ℕ
  pub driver : ℕ
  pub in_tasks : task < n
  pub in_drivers : driver < w
  pub failed : (more : List (List Value)) → MayCome (ended task driver) more
      → Fails (took task driver ++ more)

-- a driver failed with this kind at the node of the id, in the node's pipeline or in one below
abbrev pub Failed : Tables → ℕ → ℕ → RunPlan → Notes → Lanes → Flags → ℕ → Fail → Type 0
Failed tables n w (plan.scan id table columns types) notes took ended node kind = ⊥
Failed tables n w (plan.values id types rows) notes took ended node kind = ⊥
Failed tables n w (plan.remote id output m input) notes took ended node kind =
    (p : StoppedPipe) × Failed tables m p.drivers input p.notes p.took p.ended node kind
Failed tables n w (plan.step id s input) notes took ended node kind =
    ((id ≡ node) × MayHave s w
    × FailedOver (λ rows. StepFails (types_of (tree_of_run input)) s rows kind) tables n w input notes took ended)
    ⊎ Failed tables n w input notes took ended node kind
Failed tables n w (plan.halves id source output m h input) notes took ended node kind =
    ((id ≡ node)
    × FailedFinal (λ rows. StageFails (second_half (types_of (tree_of_run input)) h) rows kind)
    tables n w (plan.halves id source output m h input) notes took ended)
    ⊎ (p : StoppedPipe) × Failed tables m p.drivers input p.notes p.took p.ended node kind
Failed tables n w (plan.join id how on left right) [] took ended node kind = ⊥
Failed tables n w (plan.join id how on left right) (note ∷ notes) took ended node kind =
    Failed tables n w left notes took ended node kind
    ⊎ (p : StoppedPipe) × Failed tables n p.drivers right p.notes p.took p.ended node kind
Failed tables n w (plan.union id left right) notes took ended node kind =
    (p : StoppedPipe)
    × (Failed tables n p.drivers left p.notes p.took p.ended node kind
    ⊎ Failed tables n p.drivers right p.notes p.took p.ended node kind)
