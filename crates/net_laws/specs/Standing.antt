-- How a pipe that runs a plan stands, with all pipes below it.
use Rattle.std.specs.Prelude.{ℕ, List}
use Rattle.plan_trees.specs.TreeTypes.{types_of}
use Rattle.plan_run_laws.specs.RunPlans.{RunPlan, tree_of_run}
use Rattle.plan_run_laws.specs.Spreads.{Tables}
use Rattle.driver_net_laws.specs.Operators.{types_of_source}
use Rattle.driver_loop.specs.declared.stage.Stage.{Stage}
use Rattle.driver_loop.specs.contracts.stage.StageOperator.TheImpl.{ghosts}
use Rattle.driver_net_laws.specs.Lanes.{Noted}
use Rattle.driver_net_laws.specs.Pipes.{GaveTyped, IsPipeOf, PipeState, TookTyped}
use Rattle.lost_row_laws.specs.Sieves.{Sieve}
use Rattle.sieve_laws.specs.LosingPipes.{IsBelowLosing, StandsLosing}
use Rattle.plan_layout.specs.Pipes.{PipeForm, SourceForm, StepForm}
use Rattle.net_laws.specs.Reached.{IsWithin}
use Rattle.net_laws.specs.RunPipes.{RunsAs}
use Rattle.net_laws.specs.Along.{Along, BuiltTyped}

-- What its drivers took of the sources of the plan, and how the pipes below stand. The sieves come from above, and
-- `of_join` has those of each join, by its id.
pub record StandsOn (pipes : ℕ → PipeState Stage) (of_join : ℕ → List Sieve) (tables : Tables) (layout : List PipeForm) (sieves : List Sieve)
    (n : ℕ) (run : RunPlan) (own w : ℕ) (source : SourceForm) (steps : List StepForm) (r : RunsAs layout n run own w source steps) (notes : ℕ → ℕ → Noted) : Type 0 where
  pub stands : StandsLosing ghosts pipes of_join tables sieves own n run notes
  pub below : (place : ℕ) → IsWithin layout place n run own w source steps r → IsBelowLosing ghosts pipes of_join tables sieves place own n run notes stands
  pub typed : TookTyped (types_of_source run) n (pipes own)
  pub built : Along (BuiltTyped pipes n) layout n run own w source steps r notes

-- and its drivers are the lanes of the plan
pub record IsStanding (pipes : ℕ → PipeState Stage) (of_join : ℕ → List Sieve) (tables : Tables) (layout : List PipeForm) (sieves : List Sieve)
    (n : ℕ) (run : RunPlan) (own : ℕ) (pipe : PipeForm) (r : RunsAs layout n run own pipe.drivers pipe.source pipe.steps) : Type 0 where
  pub is : IsPipeOf ghosts n run (pipes own)
  pub on : StandsOn pipes of_join tables layout sieves n run own pipe.drivers pipe.source pipe.steps r (pipes own).notes
  pub gave : GaveTyped (types_of (tree_of_run run)) n (pipes own)
