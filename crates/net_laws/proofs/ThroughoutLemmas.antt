-- What is said of all scans and joins of a run, from what is said of each.
use Rattle.std.proofs.Common.{ℕ, List, Some}
use Rattle.plan_run_laws.specs.RunPlans.{RunPlan}
use Rattle.plan_run_laws.specs.RunPlans as plan
use Rattle.plan_layout.specs.Pipes.{BuildForm, PipeForm, SourceForm, StepForm, cell}
use Rattle.plan_layout.specs.Runs.{HasScan}
use Rattle.net_laws.specs.RunPipes.{Alone, IsRightSide, PipeIn, RunsAs}
use Rattle.net_laws.specs.Throughout.{OfRight, OfScan, Throughout}

-- the pipe at a place builds the right side of a join
abbrev pub IsBuiltIn : List PipeForm → OfRight
IsBuiltIn layout id on n right j = (build : BuildForm) × IsRightSide id on build × PipeIn layout n (cell build) j (Alone (RunsAs layout n right))

-- what is said of any scan by its pipe, and of any join by the pipe of its right side, is said throughout
module _ (layout : List PipeForm) (Of : OfScan) (By : OfRight) (of : (id own : ℕ) → HasScan layout own (Some id) → Of id own)
    (by : (id : ℕ) (on : List (ℕ × ℕ)) (n : ℕ) (right : RunPlan) (j : ℕ) → IsBuiltIn layout id on n right j → By id on n right j) where
  pub throughout : (n : ℕ) (run : RunPlan) (own w : ℕ) (source : SourceForm) (steps : List StepForm) (r : RunsAs layout n run own w source steps) → Throughout Of By layout n run own w source steps r
  throughout n (plan.scan id table columns types) own w source steps r = of id own r.2
  throughout n (plan.values id types list) own w source steps r = tt
  throughout n (plan.remote id output m input) own w source steps r = throughout m input r.1.at r.1.root.pipe.drivers r.1.root.pipe.source r.1.root.pipe.steps r.1.root.so
  throughout n (plan.step id s input) own w source steps r = throughout n input own w source r.1.0 r.1.2
  throughout n (plan.join id kind on left right) own w source steps r =
      (by id on n right r.0 (r.1, r.2, r.3), throughout n right r.0 r.3.pipe.drivers r.3.pipe.source r.3.pipe.steps r.3.so.1, throughout n left own w source r.4.0 r.4.2)
  throughout n (plan.halves id remote output m h input) own w source steps r =
      throughout m input r.2.at r.2.root.pipe.drivers r.2.root.pipe.source r.2.root.so.1.0 r.2.root.so.1.2
  throughout n (plan.union id left right) own w source steps r = (
    throughout n left r.3.0 r.3.1.pipe.drivers r.3.1.pipe.source r.3.1.pipe.steps r.3.1.so,
    throughout n right r.4.0 r.4.1.pipe.drivers r.4.1.pipe.source r.4.1.pipe.steps r.4.1.so,
  )
