-- The pipes of the layout of a consistent plan run it.
use Rattle.std.proofs.Common.{◌≡◌, ℕ, ◌+◌, ◌<◌, zero, suc, List, [], ◌∷◌, Bool, true, false, inl, inr, refl, ap, sym, ◌∙◌, subst, arith, Some, None}
use Rattle.std.specs.Prelude.{Result, Ok, Err, slice_get, unwrap_or, if◌then◌else◌}
use Rattle.sql_exprs.specs.Typing.{Path, typed_then}
use Rattle.plan_docs.specs.declared.node.NodeStep.TheVariants.{Single, Partial}
use Rattle.plan_docs.specs.declared.plan.Placement.{Placement}
use Rattle.plan_docs.specs.Nodes.{NodeForm}
use Rattle.plan_docs.specs.Nodes as node
use Rattle.plan_docs.specs.Plans.{FragmentForm, PlanForm}
use Rattle.plan_types.specs.Plans.{root_path}
use Rattle.plan_run_laws.specs.RunPlans.{RunPlan}
use Rattle.plan_spreads.specs.declared.spread.RowSpread.{RowSpread}
use Rattle.plan_spreads.specs.declared.spread.RowSpread.TheVariants.{Whole}
use Rattle.plan_spreads.specs.Halves.{AllMeet, HalvesMeet, Meets, half}
use Rattle.plan_spreads.specs.Nodes.{spread_of}
use Rattle.plan_spreads.specs.Plans.{all_spreads, first_placement, is_single, placement_fault, plan_spreads, root_spread, sources_fault}
use Rattle.plan_spreads.specs.Runs.{fragment_parts, no_part, node_run, part_read, plan_run}
use Rattle.plan_spreads.proofs.PlanLemmas.{all_meet, first_spread}
use Rattle.plan_spreads.proofs.WidthLemmas.{unless_fault}
use Rattle.plan_types.specs.Faults.{or_fault}
use Rattle.plan_layout.specs.declared.pipe.Parallelism.{Parallelism}
use Rattle.plan_layout.specs.Edges.{reader_of, target_of}
use Rattle.plan_layout.specs.Layouts.{layout_of}
use Rattle.plan_layout.specs.Pipes.{PipeForm, result}
use Rattle.net_laws.specs.Readers.{IsReader}
use Rattle.net_laws.specs.RunPipes.{PipeIn}
use Rattle.net_laws.proofs.CoverLemmas.{HoldsAt, Reaches, RootReaches, root_whole, same_pipe}
use Rattle.net_laws.proofs.LoneLemmas.{Fine}
use Rattle.net_laws.proofs.RunPipeLemmas.{Good, Later, fragment_runs}

fragment_fine : (placement : Placement) (r : Result RowSpread Path) (g : RowSpread → Result RowSpread Path) (t : RowSpread) (b : Bool) → is_single placement ≡ b
    → (if b then Ok Whole else typed_then r g) ≡ Ok t → Fine placement r
fragment_fine placement r g t true is h = inl is
fragment_fine placement (Ok x) g t false is h = inr (x, refl)
fragment_fine placement (Err path) g t false is h = absurd cc

module _ (layout : List PipeForm) (p : Parallelism) (fragments : List FragmentForm) (Told : ℕ → ℕ → Type 0)
    (read : (n : ℕ) (f : FragmentForm) → 0 < n → slice_get fragments n ≡ Some f → IsReader layout n (reader_of n layout))
    (roots : (n : ℕ) (f : FragmentForm) → slice_get fragments n ≡ Some f → (at : ℕ) × HoldsAt layout p fragments Told n f at) where
  all_good : (fs : List FragmentForm) (i : ℕ) (ss : List RowSpread) → AllMeet i fs → all_spreads i fs ≡ Ok ss
      → ((k : ℕ) (f : FragmentForm) → slice_get fs k ≡ Some f → slice_get fragments (i + k) ≡ Some f)
      → (k : ℕ) (f : FragmentForm) → slice_get fs k ≡ Some f → Good layout p Told (i + k) f (unwrap_or (slice_get (fragment_parts p.tasks i fs) k) no_part)
  all_good [] i ss m e there k f is = absurd cc
  all_good (f ∷ fs) i ss m e there zero g is =
      let spreads = first_spread i f fs ss e in
      let parts = fragment_parts p.tasks (i + 1) fs in
      let none : i + 0 ≡ i = omega arith in
      let here : slice_get fragments i ≡ Some f = ap (slice_get fragments) (sym none) ∙ there 0 f refl in
      let next : (k : ℕ) (h : FragmentForm) → slice_get fs k ≡ Some h → slice_get fragments (i + 1 + k) ≡ Some h =
      λ k h at. let place : i + 1 + k ≡ i + suc k = omega arith in ap (slice_get fragments) place ∙ there (suc k) h at in
      let known : Later layout p fragments Told (i + 1) fs parts = record {
        some = omega arith;
        there = next;
        read = λ k h at. read (i + 1 + k) h (omega arith) (next k h at);
        good = λ k h at. all_good fs (i + 1) spreads.rest m.1 spreads.below next k h at;
      } in
      let root = roots i f here in
      let fine = fragment_fine f.placement (spread_of f.placement (i + 1) fs (root_path i) f.root) (root_spread (root_path i)) spreads.first (is_single f.placement) refl spreads.here in
      let runs = fragment_runs layout p fragments Told i f (i + 1) fs parts known (root_path i) (target_of i f.output layout) root.0 m.0 fine root.1 in
      let same : f ≡ g = cc is in
      let good : Good layout p Told i f (unwrap_or (slice_get (fragment_parts p.tasks i (f ∷ fs)) 0) no_part) = record {
        from = i + 1;
        parts = parts;
        is = refl;
        tasks = refl;
        output = refl;
        at = root.0;
        root = runs;
      } in
      subst (λ (h : FragmentForm). Good layout p Told (i + 0) h (unwrap_or (slice_get (fragment_parts p.tasks i (f ∷ fs)) 0) no_part)) same
      (subst (λ (n : ℕ). Good layout p Told n f (unwrap_or (slice_get (fragment_parts p.tasks i (f ∷ fs)) 0) no_part)) (sym none) good)
  all_good (f ∷ fs) i ss m e there (suc k) g is =
      let spreads = first_spread i f fs ss e in
      let next : (k : ℕ) (h : FragmentForm) → slice_get fs k ≡ Some h → slice_get fragments (i + 1 + k) ≡ Some h =
      λ k h at. let place : i + 1 + k ≡ i + suc k = omega arith in ap (slice_get fragments) place ∙ there (suc k) h at in
      let place : i + 1 + k ≡ i + suc k = omega arith in
      subst (λ (n : ℕ). Good layout p Told n g (unwrap_or (slice_get (fragment_parts p.tasks (i + 1) fs) k) no_part)) place
      (all_good fs (i + 1) spreads.rest m.1 spreads.below next k g is)

whole_root : (first : ℕ) (later : List FragmentForm) (x : NodeForm) → Meets first later x → half x ≡ None
whole_root first later (node.aggregate id Single keys calls input) m = refl
whole_root first later (node.aggregate id Partial keys calls input) m = absurd cc
whole_root first later (node.top_n id Single count keys input) m = refl
whole_root first later (node.top_n id Partial count keys input) m = absurd cc
whole_root first later (node.limit id Single count input) m = refl
whole_root first later (node.limit id Partial count input) m = absurd cc
whole_root first later x m = refl

first_whole : (fs : List FragmentForm) (f : FragmentForm) → slice_get fs 0 ≡ Some f → HalvesMeet fs → half f.root ≡ None
first_whole [] f is m = absurd cc
first_whole (g ∷ fs) f is m =
    let same : g ≡ f = cc is in
    subst (λ (h : FragmentForm). half h.root ≡ None) same (whole_root 1 fs g.root m.0)

one_task : (b : Bool) (tasks : ℕ) → (if b then None else Some first_placement) ≡ None → (if b then 1 else tasks) ≡ 1
one_task true tasks h = refl
one_task false tasks h = absurd cc

pub plan_runs_in : (p : Parallelism) (plan : PlanForm) (Told : ℕ → ℕ → Type 0) (spreads : List RowSpread) → plan_spreads plan ≡ Ok spreads → HalvesMeet plan.fragments
    → ((n : ℕ) (f : FragmentForm) → 0 < n → slice_get plan.fragments n ≡ Some f → IsReader (layout_of p plan) n (reader_of n (layout_of p plan)))
    → ((n : ℕ) (f : FragmentForm) → slice_get plan.fragments n ≡ Some f → (at : ℕ) × HoldsAt (layout_of p plan) p plan.fragments Told n f at)
    → (f : FragmentForm) → slice_get plan.fragments 0 ≡ Some f
    → (at : ℕ) × PipeIn (layout_of p plan) 1 result at (Reaches (layout_of p plan) (Told 0) 1 (plan_run p.tasks plan))
unfolding plan_spreads
plan_runs_in p plan Told spreads e m read roots f is =
    let fs = plan.fragments in
    let layout = layout_of p plan in
    let one = unless_fault (placement_fault (slice_get fs 0)) (or_fault (sources_fault 0 fs) (all_spreads 0 fs)) spreads e in
    let sent = unless_fault (sources_fault 0 fs) (all_spreads 0 fs) spreads one.1 in
    let there : (k : ℕ) (g : FragmentForm) → slice_get fs k ≡ Some g → slice_get fs (0 + k) ≡ Some g =
    λ k g at. let none : 0 + k ≡ k = omega arith in ap (slice_get fs) none ∙ at in
    let good = all_good layout p fs Told read roots fs 0 spreads (all_meet fs m) sent.1 there 0 f is in
    let part = part_read 0 (fragment_parts p.tasks 0 fs) 0 in
    let single : (if is_single f.placement then None else Some first_placement) ≡ None = sym (ap placement_fault is) ∙ one.0 in
    let tasks : part.tasks ≡ 1 = good.tasks ∙ one_task (is_single f.placement) p.tasks single in
    let whole = same_pipe layout part.tasks result good.at (RootReaches layout (Told 0) part.tasks good.from good.parts f.root) (Reaches layout (Told 0) part.tasks (node_run good.from good.parts f.root))
    (root_whole layout (Told 0) part.tasks good.from good.parts f.root (first_whole fs f is m)) good.root in
    let runs = subst (λ (r : RunPlan). PipeIn layout part.tasks result good.at (Reaches layout (Told 0) part.tasks r)) (sym good.is) whole in
    (good.at, subst (λ (n : ℕ). PipeIn layout n result good.at (Reaches layout (Told 0) n (plan_run p.tasks plan))) tasks runs)
