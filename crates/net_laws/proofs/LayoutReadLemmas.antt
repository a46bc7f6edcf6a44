-- The fragments of a consistent plan are read, and the pipes of its layout run it.
use Rattle.std.proofs.Common.{◌≡◌, ℕ, ◌<◌, length, Some}
use Rattle.std.specs.Prelude.{slice_get}
use Rattle.plan_docs.specs.Plans.{FragmentForm, PlanForm}
use Rattle.plan_spreads.specs.Runs.{plan_run}
use Rattle.plan_layout.specs.declared.pipe.Parallelism.{Parallelism}
use Rattle.plan_layout.specs.Edges.{reader_of}
use Rattle.plan_layout.specs.Layouts.{layout_of}
use Rattle.plan_layout.specs.Pipes.{result}
use Rattle.plan_layout.proofs.LayoutLemmas.{plan_laid}
use Rattle.plan_link_laws.specs.Consistent.{IsConsistent}
use Rattle.plan_link_laws.proofs.DocumentLemmas.{judged_plan, plan_meets, plan_read_once, plan_reads}
use Rattle.net_laws.specs.Readers.{IsReader, IsRootAt}
use Rattle.net_laws.specs.Reached.{AreReached}
use Rattle.net_laws.specs.RunPipes.{PipeIn, RunsAs}
use Rattle.net_laws.proofs.PlanPipeLemmas.{plan_runs_in}
use Rattle.net_laws.proofs.ReachLemmas.{IsTold, all_told, roots_hold}
use Rattle.net_laws.proofs.ReaderLemmas.{plan_reader, root_at}
use Rattle.net_laws.proofs.UnderLemmas.{there_below}

pub all_read : (plan : PlanForm) → IsConsistent plan → (p : Parallelism) (number : ℕ) → 0 < number → number < length plan.fragments
    → IsReader (layout_of p plan) number (reader_of number (layout_of p plan))
all_read plan c p = plan_reader p plan (plan_reads plan c) (plan_read_once plan c)

pub roots_placed : (plan : PlanForm) → IsConsistent plan → (p : Parallelism) (number : ℕ) (f : FragmentForm) → slice_get plan.fragments number ≡ Some f
    → (at : ℕ) × IsRootAt (layout_of p plan) p plan.fragments number f at
roots_placed plan c p number f is =
    root_at p plan number f (λ some. all_read plan c p number some (there_below plan.fragments number f is)) (plan_laid p plan number f is)

pub plan_reached : (plan : PlanForm) → IsConsistent plan → (p : Parallelism) (f : FragmentForm) → slice_get plan.fragments 0 ≡ Some f
    → AreReached (layout_of p plan) (plan_run p.tasks plan)
plan_reached plan c p f is =
    let j = judged_plan plan c in
    let layout = layout_of p plan in
    let read : (n : ℕ) (g : FragmentForm) → 0 < n → slice_get plan.fragments n ≡ Some g → IsReader layout n (reader_of n layout) =
    λ n g some there. all_read plan c p n some (there_below plan.fragments n g there) in
    let runs = plan_runs_in p plan (IsTold layout plan.fragments) j.spreads.has j.spreads.is (plan_meets plan c) read (roots_hold p plan read) f is in
    record {
      at = runs.0;
      root = record { pipe = runs.1.pipe; is = runs.1.is; tasks = runs.1.tasks; has = runs.1.has; so = runs.1.so.0 };
      each = λ place pipe there stays. runs.1.so.1 place (all_told p plan (plan_reads plan c) (plan_read_once plan c) place pipe there stays);
    }

pub runs_in_pipes : (plan : PlanForm) → IsConsistent plan → (p : Parallelism) (f : FragmentForm) → slice_get plan.fragments 0 ≡ Some f
    → (at : ℕ) × PipeIn (layout_of p plan) 1 result at (RunsAs (layout_of p plan) 1 (plan_run p.tasks plan))
runs_in_pipes plan c p f is = let r = plan_reached plan c p f is in (r.at, r.root)
