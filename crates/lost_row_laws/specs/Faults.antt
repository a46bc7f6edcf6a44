-- A driver that failed at a node, in a run that it stopped and whose scans lost rows.
use Rattle.std.specs.Prelude.{◌≡◌, ◌⊎◌, ℕ, ◌<◌, List, [], ◌∷◌, ◌++◌}
use Rattle.sql_values.specs.declared.value.Value.{Value}
use Rattle.sql_values.specs.declared.fail.Fail.{Fail}
use Rattle.plan_trees.specs.Steps.{StepFails}
use Rattle.plan_trees.specs.TreeTypes.{types_of}
use Rattle.plan_run_laws.specs.Nets.{Lanes}
use Rattle.plan_run_laws.specs.RunPlans.{RunPlan, tree_of_run}
use Rattle.plan_run_laws.specs.RunPlans as plan
use Rattle.plan_run_laws.specs.Stages.{MayHave, StageFails, second_half}
use Rattle.plan_run_laws.specs.Spreads.{Tables}
use Rattle.plan_run_laws.specs.Stops.{AreOpen, Flags, MayCome, Notes, StoppedPipe}
use Rattle.lost_row_laws.specs.Sieves.{MayLose, Sieve}
use Rattle.lost_row_laws.specs.Stops.{StopsLosing}

-- a driver's stage over the input failed: what it took fails, with whatever it would still take
pub record FailedOverLosing (Fails : List (List Value) → Type 0) (tables : Tables) (sieves : List Sieve) (n w : ℕ)
    (input : RunPlan) (notes : Notes) (took : Lanes) (ended : Flags) : Type 0 where
  pub stops : StopsLosing tables sieves n w input notes took ended
  -- what the stages before gave in each driver, and in which of them they give no more
  pub gave : Lanes
  pub done : Flags
  pub opened : AreOpen [] n w input notes took gave ended done
  -- where it failed
  pub task : ℕ
  pub driver : ℕ
  pub in_tasks : task < n
  pub in_drivers : driver < w
  pub failed : (more : List (List Value)) → MayCome (done task driver) more
      → Fails (gave task driver ++ more)

-- a FINAL stage failed over what came from its edge
pub record FailedFinalLosing (Fails : List (List Value) → Type 0) (tables : Tables) (n w : ℕ)
    (node : RunPlan) (notes : Notes) (took : Lanes) (ended : Flags) : Type 0 where
  pub stops : StopsLosing tables [] n w node notes took ended
  pub task : ℕ
  pub driver : ℕ
  pub in_tasks : task < n
  pub in_drivers : driver < w
  pub failed : (more : List (List Value)) → MayCome (ended task driver) more
      → Fails (took task driver ++ more)

-- a driver failed with this kind at the node of the id, in the node's pipeline or in one below
abbrev pub FailedLosing : Tables → ℕ → ℕ → RunPlan → Notes → Lanes → Flags → ℕ → Fail → Type 0
FailedLosing tables n w (plan.scan id table columns types) notes took ended node kind = ⊥
FailedLosing tables n w (plan.values id types rows) notes took ended node kind = ⊥
FailedLosing tables n w (plan.remote id output m input) notes took ended node kind =
    (p : StoppedPipe) × FailedLosing tables m p.drivers input p.notes p.took p.ended node kind
FailedLosing tables n w (plan.step id s input) notes took ended node kind =
    ((id ≡ node) × MayHave s w × (sieves : List Sieve) × MayLose s sieves
    × FailedOverLosing (λ rows. StepFails (types_of (tree_of_run input)) s rows kind) tables sieves n w input notes took ended)
    ⊎ FailedLosing tables n w input notes took ended node kind
FailedLosing tables n w (plan.halves id source output m h input) notes took ended node kind =
    ((id ≡ node)
    × FailedFinalLosing (λ rows. StageFails (second_half (types_of (tree_of_run input)) h) rows kind)
    tables n w (plan.halves id source output m h input) notes took ended)
    ⊎ (p : StoppedPipe) × FailedLosing tables m p.drivers input p.notes p.took p.ended node kind
FailedLosing tables n w (plan.join id how on left right) [] took ended node kind = ⊥
FailedLosing tables n w (plan.join id how on left right) (note ∷ notes) took ended node kind =
    FailedLosing tables n w left notes took ended node kind
    ⊎ (p : StoppedPipe) × FailedLosing tables n p.drivers right p.notes p.took p.ended node kind
FailedLosing tables n w (plan.union id left right) notes took ended node kind =
    (p : StoppedPipe)
    × (FailedLosing tables n p.drivers left p.notes p.took p.ended node kind
    ⊎ FailedLosing tables n p.drivers right p.notes p.took p.ended node kind)
