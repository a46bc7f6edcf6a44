-- Which pipes of a layout a plan runs in, besides that of its root: those that begin below its nodes.
use Rattle.std.specs.Prelude.{◌≡◌, ◌⊎◌, ℕ, List, Bool, true, false, slice_get, Some}
use Rattle.plan_run_laws.specs.RunPlans.{RunPlan}
use Rattle.plan_run_laws.specs.RunPlans as plan
use Rattle.plan_layout.specs.Pipes.{PipeForm, SourceForm, StepForm, TargetForm, result, takers}
use Rattle.net_laws.specs.RunPipes.{PipeIn, RunsAs}

-- what fetches for another pipe gives its rows to that one's drivers
abbrev pub is_fetching : TargetForm → Bool
is_fetching (takers at) = true
is_fetching target = false

-- at the place is one of those that begin below the node: where a source reads the root of a fragment, at the right side
-- of a join, or at a side of a union
abbrev pub IsWithin : (layout : List PipeForm) (place n : ℕ) (run : RunPlan) (own w : ℕ) (source : SourceForm) (steps : List StepForm)
    → RunsAs layout n run own w source steps → Type 0
IsWithin layout place n (plan.scan id table columns types) own w source steps r = ⊥
IsWithin layout place n (plan.values id types list) own w source steps r = ⊥
IsWithin layout place n (plan.remote id output m input) own w source steps r =
    (place ≡ r.1.at) ⊎ IsWithin layout place m input r.1.at r.1.root.pipe.drivers r.1.root.pipe.source r.1.root.pipe.steps r.1.root.so
IsWithin layout place n (plan.step id s input) own w source steps r = IsWithin layout place n input own w source r.1.0 r.1.2
IsWithin layout place n (plan.halves id remote output m h input) own w source steps r =
    (place ≡ r.2.at) ⊎ IsWithin layout place m input r.2.at r.2.root.pipe.drivers r.2.root.pipe.source r.2.root.so.1.0 r.2.root.so.1.2
IsWithin layout place n (plan.join id kind on left right) own w source steps r =
    ((place ≡ r.0) ⊎ IsWithin layout place n right r.0 r.3.pipe.drivers r.3.pipe.source r.3.pipe.steps r.3.so.1)
    ⊎ IsWithin layout place n left own w source r.4.0 r.4.2
IsWithin layout place n (plan.union id left right) own w source steps r =
    ((place ≡ r.3.0) ⊎ IsWithin layout place n left r.3.0 r.3.1.pipe.drivers r.3.1.pipe.source r.3.1.pipe.steps r.3.1.so)
    ⊎ ((place ≡ r.4.0) ⊎ IsWithin layout place n right r.4.0 r.4.1.pipe.drivers r.4.1.pipe.source r.4.1.pipe.steps r.4.1.so)

-- the pipes run the plan in one task, from the pipe that gives the result, and each pipe that does not fetch is that one
-- or begins below it
pub record AreReached (layout : List PipeForm) (run : RunPlan) : Type 0 where
  pub at : ℕ
  pub root : PipeIn layout 1 result at (RunsAs layout 1 run)
  pub each : (place : ℕ) (pipe : PipeForm) → slice_get layout place ≡ Some pipe → is_fetching pipe.target ≡ false
      → (place ≡ at) ⊎ IsWithin layout place 1 run at root.pipe.drivers root.pipe.source root.pipe.steps root.so
