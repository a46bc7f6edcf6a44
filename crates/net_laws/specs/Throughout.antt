-- What is said of the scans and joins of a run, in all pipes that run it.
use Rattle.std.specs.Prelude.{ℕ, List}
use Rattle.plan_run_laws.specs.RunPlans.{RunPlan}
use Rattle.plan_run_laws.specs.RunPlans as plan
use Rattle.plan_layout.specs.Pipes.{PipeForm, SourceForm, StepForm}
use Rattle.net_laws.specs.RunPipes.{RunsAs}

-- of a scan: of its id, and the place of the pipe that reads it
abbrev pub OfScan : Type 1
OfScan = ℕ → ℕ → Type 0

-- of a join: of its id, its pairs of columns, how many tasks it runs in, its right side, and the place of the pipe that
-- builds that
abbrev pub OfRight : Type 1
OfRight = ℕ → List (ℕ × ℕ) → ℕ → RunPlan → ℕ → Type 0

abbrev pub Throughout : OfScan → OfRight → (layout : List PipeForm) (n : ℕ) (run : RunPlan) (own w : ℕ) (source : SourceForm) (steps : List StepForm)
    → RunsAs layout n run own w source steps → Type 0
Throughout Of By layout n (plan.scan id table columns types) own w source steps r = Of id own
Throughout Of By layout n (plan.values id types list) own w source steps r = Unit {0}
Throughout Of By layout n (plan.remote id output m input) own w source steps r =
    Throughout Of By layout m input r.1.at r.1.root.pipe.drivers r.1.root.pipe.source r.1.root.pipe.steps r.1.root.so
Throughout Of By layout n (plan.step id s input) own w source steps r = Throughout Of By layout n input own w source r.1.0 r.1.2
Throughout Of By layout n (plan.join id kind on left right) own w source steps r =
    By id on n right r.0 × Throughout Of By layout n right r.0 r.3.pipe.drivers r.3.pipe.source r.3.pipe.steps r.3.so.1
    × Throughout Of By layout n left own w source r.4.0 r.4.2
Throughout Of By layout n (plan.halves id remote output m h input) own w source steps r =
    Throughout Of By layout m input r.2.at r.2.root.pipe.drivers r.2.root.pipe.source r.2.root.so.1.0 r.2.root.so.1.2
Throughout Of By layout n (plan.union id left right) own w source steps r =
    Throughout Of By layout n left r.3.0 r.3.1.pipe.drivers r.3.1.pipe.source r.3.1.pipe.steps r.3.1.so
    × Throughout Of By layout n right r.4.0 r.4.1.pipe.drivers r.4.1.pipe.source r.4.1.pipe.steps r.4.1.so
