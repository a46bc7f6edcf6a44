-- Each pipe of a layout has the tasks of its fragment, and so many drivers as may run it.
use Rattle.std.proofs.Common.{◌≡◌, ℕ, ◌+◌, suc, List, [], ◌∷◌, ◌++◌, refl, ap, ◌∙◌, arith, Some}
use Rattle.std.specs.Prelude.{slice_get}
use Rattle.plan_docs.specs.Plans.{FragmentForm, PlanForm}
use Rattle.plan_layout.specs.declared.pipe.Parallelism.{Parallelism}
use Rattle.plan_layout.specs.Edges.{target_of}
use Rattle.net_laws.specs.Lanes.{AreManned, IsManned}
use Rattle.plan_layout.specs.Layouts.{fragment_pipes, laid, layout_of, site_of}
use Rattle.plan_layout.specs.Pipes.{PipeForm}
use Rattle.plan_spreads.proofs.EachLemmas.{Each, each_at, each_join}
use Rattle.plan_layout.proofs.PipeLemmas.{each_block}

module _ (p : Parallelism) (fragments : List FragmentForm) where
  abbrev Manned : PipeForm → Type 0
  Manned pipe = IsManned p fragments pipe

  all_manned : (fs : List FragmentForm) (number : ℕ) (done : List PipeForm) → ((k : ℕ) (f : FragmentForm) → slice_get fs k ≡ Some f → slice_get fragments (number + k) ≡ Some f)
      → Each Manned done → Each Manned (laid p fragments number done fs)
  all_manned [] number done there each = each
  all_manned (f ∷ fs) number done there each =
      let s = site_of p fragments number f in
      let target = target_of number f.output done in
      let none : number ≡ number + 0 = omega arith in
      let is : slice_get fragments number ≡ Some f = ap (slice_get fragments) none ∙ there 0 f refl in
      all_manned fs (number + 1) (done ++ fragment_pipes s done target f.root)
      (λ k g at. let next : number + 1 + k ≡ number + suc k = omega arith in ap (slice_get fragments) next ∙ there (suc k) g at)
      (each_join Manned done (fragment_pipes s done target f.root) each
      (each_block Manned s (λ next aim n. record { part = f; is = is; tasks = refl; drivers = refl })
      (λ pipe at numbers h. record { part = h.part; is = h.is; tasks = h.tasks; drivers = refl })
      (λ pipe numbers h. record { part = h.part; is = h.is; tasks = h.tasks; drivers = h.drivers })
      done target f.root))

pub plan_manned : (p : Parallelism) (plan : PlanForm) → AreManned p plan.fragments (layout_of p plan)
plan_manned p plan at pipe is =
    each_at (IsManned p plan.fragments) (layout_of p plan) at pipe is
    (all_manned p plan.fragments plan.fragments 0 []
    (λ k f h. let none : 0 + k ≡ k = omega arith in ap (slice_get plan.fragments) none ∙ h) tt)
