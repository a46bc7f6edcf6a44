-- One pipe gives the result, by one driver in one task.
use Rattle.std.proofs.Common.{◌≡◌, ℕ, ◌<◌, List, length, Bool, true, false, Option, Some, None, refl, ap, sym, ◌∙◌, subst}
use Rattle.std.specs.Prelude.{Result, Ok, Err, slice_get, if◌then◌else◌}
use Rattle.plan_docs.specs.declared.plan.Placement.{Placement}
use Rattle.plan_docs.specs.Plans.{FragmentForm, PlanForm}
use Rattle.plan_types.specs.Faults.{or_fault}
use Rattle.plan_spreads.specs.declared.spread.RowSpread.{RowSpread}
use Rattle.plan_spreads.specs.Plans.{all_spreads, first_placement, is_single, placement_fault, plan_spreads, sources_fault}
use Rattle.plan_spreads.specs.Runs.{tasks_of}
use Rattle.plan_spreads.proofs.WidthLemmas.{unless_fault}
use Rattle.sql_exprs.specs.Typing.{Path}
use Rattle.plan_layout.specs.declared.pipe.Parallelism.{Parallelism}
use Rattle.plan_layout.specs.Layouts.{layout_of}
use Rattle.plan_layout.specs.Pipes.{PipeForm, result}
use Rattle.plan_layout.specs.Steps.{drivers_in_task}
use Rattle.plan_link_laws.specs.Consistent.{IsConsistent}
use Rattle.plan_link_laws.proofs.DocumentLemmas.{judged_plan}
use Rattle.net_laws.specs.Givers.{HasOneResult, HasTarget}
use Rattle.net_laws.proofs.GivenLemmas.{result_at}
use Rattle.net_laws.proofs.LayoutLaneLemmas.{plan_manned}

one_task : (tasks : ℕ) (placement : Placement) → is_single placement ≡ true → tasks_of tasks placement ≡ 1
one_task tasks placement is = ap (λ (b : Bool). if b then 1 else tasks) is

one_either : (b : Bool) (n : ℕ) → n ≡ 1 → (if b then n else 1) ≡ 1
one_either true n is = is
one_either false n is = refl

single_by : (b : Bool) (path : Path) → (if b then None else Some path) ≡ None → b ≡ true
single_by true path none = refl
single_by false path none = absurd cc

-- fragment 0 is in one task
first_single : (plan : PlanForm) (spreads : List RowSpread) (f : FragmentForm) → plan_spreads plan ≡ Ok spreads → slice_get plan.fragments 0 ≡ Some f → is_single f.placement ≡ true
unfolding plan_spreads
first_single plan spreads f e is =
    let none = (unless_fault (placement_fault (slice_get plan.fragments 0)) (or_fault (sources_fault 0 plan.fragments) (all_spreads 0 plan.fragments)) spreads e).0 in
    single_by (is_single f.placement) first_placement (sym (ap placement_fault is) ∙ none)

pub one_result : (plan : PlanForm) → IsConsistent plan → (p : Parallelism) → HasOneResult (layout_of p plan)
one_result plan c p = record {
  lone = λ at h. lone_at at h.pipe h.is h.gives;
  one = λ i j h g. same_place i j h g;
}
  where
    lone_at : (at : ℕ) (pipe : PipeForm) → slice_get (layout_of p plan) at ≡ Some pipe → pipe.target ≡ result → (pipe.tasks ≡ 1) × (pipe.drivers ≡ 1)
    lone_at at pipe is gives =
        let m = plan_manned p plan at pipe is in
        let first = (result_at p plan at pipe is gives).0 in
        let there : slice_get plan.fragments 0 ≡ Some m.part = sym (ap (slice_get plan.fragments) first) ∙ m.is in
        let s = (judged_plan plan c).spreads in
        let single = first_single plan s.has m.part s.is there in
        (m.tasks ∙ one_task p.tasks m.part.placement single, m.drivers ∙ one_either _ (tasks_of p.drivers m.part.placement) (one_task p.drivers m.part.placement single))

    same_place : (i j : ℕ) → HasTarget (layout_of p plan) i result → HasTarget (layout_of p plan) j result → i ≡ j
    same_place i j h g =
        let m = plan_manned p plan i h.pipe h.is in
        let a = result_at p plan i h.pipe h.is h.gives in
        let b = result_at p plan j g.pipe g.is g.gives in
        let there : slice_get plan.fragments 0 ≡ Some m.part = sym (ap (slice_get plan.fragments) a.0) ∙ m.is in
        a.1 m.part there ∙ sym (b.1 m.part there)
