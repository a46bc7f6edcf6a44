-- Each fragment of a plan runs below the first one, so that the run has each join of each fragment.
use Rattle.std.proofs.Common.{◌≡◌, ◌⊎◌, inl, inr, ℕ, ◌+◌, ◌≤◌, zero, suc, List, [], ◌∷◌, length, Bool, true, false, refl, ap, sym, subst, arith}
use Rattle.std.specs.Prelude.{All, slice_get, ◌==◌, if◌then◌else◌}
use Rattle.std.proofs.lemmas.Bool.{eqb-false, eqb-true}
use Rattle.std.proofs.lemmas.List.Elements.{All-cons, All-nil}
use Rattle.sql_values.specs.declared.relational.JoinKind.{JoinKind}
use Rattle.plan_docs.specs.Nodes.{NodeForm, scan, values, remote, filter, project, join, aggregate, aggregate_final, sort, top_n, top_n_final, limit, limit_final, union}
use Rattle.plan_docs.specs.Plans.{FragmentForm, PlanForm}
use Rattle.plan_trees.specs.TreeForms.{TreeForm}
use Rattle.plan_link_laws.specs.Filters.{trees_of}
use Rattle.plan_link_laws.specs.Trees.{node_tree}
use Rattle.plan_run_laws.specs.RunPlans.{Output, RunPlan, tree_of_run}
use Rattle.plan_run_laws.specs.RunPlans as run
use Rattle.plan_spreads.specs.Reading.{AllReadOn, AreReadOnce, EachSource, IsAmong, reads_in, reads_of}
use Rattle.plan_spreads.specs.Runs.{Part, fragment_parts, fragment_run, node_run, one_over, one_with, part_read, plan_run}
use Rattle.sieve_laws.specs.ComingDown.{HasJoin}
use Rattle.net_laws.specs.RunJoins.{EachJoin, HasJoinOver, HasJoins}
use Rattle.net_laws.proofs.PartLemmas.{part_here, part_later, reads_none}
use Rattle.plan_link_laws.proofs.RunLemmas.{node_runs}
use Rattle.net_laws.proofs.TreeLemmas.{From, fragment_means, from_next}

either : (a b : ℕ) → 1 ≤ a + b → (1 ≤ a) ⊎ (1 ≤ b)
either zero b some = inr (omega (arith, some))
either (suc a) b some = inl (omega arith)

named_by : (fragment k : ℕ) (b : Bool) → fragment == k ≡ b → 1 ≤ (if b then 1 else 0) → fragment ≡ k
named_by fragment k true is some = eqb-true fragment k is
named_by fragment k false is some = absurd (omega (arith, some))

module _ (at : ℕ) (how : JoinKind) (side : RunPlan) where
  abbrev Has : RunPlan → Type 0
  Has r = HasJoin r at how side

  over_has : (id source : ℕ) (o : Output) (tasks : ℕ) (r : RunPlan) → Has r → Has (one_over id source o tasks r)
  over_has id source o tasks (run.aggregate half keys calls input) has = has
  over_has id source o tasks r has = has

  pub with_has : (id : ℕ) (r : RunPlan) → Has r → Has (one_with id r)
  with_has id (run.remote source o tasks r) has = over_has id source o tasks r has
  with_has id r has = has

  -- a node has what a fragment has that it reads
  module _ (first : ℕ) (parts : List Part) (k : ℕ) (below : Has (part_read first parts k).root) where
    node_has : (node : NodeForm) → 1 ≤ reads_of k node → Has (node_run first parts node)
    node_has (scan id table columns types) some = absurd (omega (arith, some))
    node_has (values id types rows) some = absurd (omega (arith, some))
    node_has (remote id fragment) some = subst (λ (n : ℕ). Has (part_read first parts n).root) (sym (named_by fragment k (fragment == k) refl some)) below
    node_has (filter id predicate input) some = node_has input some
    node_has (project id columns input) some = node_has input some
    node_has (join id kind on filters left right) some = of (either (reads_of k left) (reads_of k right) some) (λ h. node_has left h) (λ h. node_has right h)
      where
        of : (1 ≤ reads_of k left) ⊎ (1 ≤ reads_of k right) → (1 ≤ reads_of k left → Has (node_run first parts left)) → (1 ≤ reads_of k right → Has (node_run first parts right))
            → Has (node_run first parts (join id kind on filters left right))
        of (inl h) by_left by_right = inr (inl (by_left h))
        of (inr h) by_left by_right = inr (inr (by_right h))
    node_has (aggregate id step keys calls input) some = node_has input some
    node_has (aggregate_final id input) some = with_has id (node_run first parts input) (node_has input some)
    node_has (sort id keys input) some = node_has input some
    node_has (top_n id step count keys input) some = node_has input some
    node_has (top_n_final id input) some = with_has id (node_run first parts input) (node_has input some)
    node_has (limit id step count input) some = node_has input some
    node_has (limit_final id input) some = with_has id (node_run first parts input) (node_has input some)
    node_has (union id left right) some = of (either (reads_of k left) (reads_of k right) some) (λ h. node_has left h) (λ h. node_has right h)
      where
        of : (1 ≤ reads_of k left) ⊎ (1 ≤ reads_of k right) → (1 ≤ reads_of k left → Has (node_run first parts left)) → (1 ≤ reads_of k right → Has (node_run first parts right))
            → Has (node_run first parts (union id left right))
        of (inl h) by_left by_right = inl (by_left h)
        of (inr h) by_left by_right = inr (by_right h)

  module _ (tasks : ℕ) where
    abbrev HasPart : ℕ → List FragmentForm → ℕ → Type 0
    HasPart i fs k = Has (part_read i (fragment_parts tasks i fs) k).root

    -- a fragment from place i on that has it too, and that none of them reads
    record Climbed (i : ℕ) (fs : List FragmentForm) : Type 0 where
      from : ℕ
      among : IsAmong i (length fs) from
      has : HasPart i fs from
      unread : reads_in from fs ≡ 0

    here_climbed : (i : ℕ) (f : FragmentForm) (fs : List FragmentForm) → AllReadOn i (f ∷ fs) → HasPart i (f ∷ fs) i → Climbed i (f ∷ fs)
    here_climbed i f fs on has =
        record { from = i; among = (omega arith, omega arith); has = has; unread = reads_none i i (f ∷ fs) (omega arith) on }

    -- one of the later fragments is read by the first of them or by none
    more_climbed : (i : ℕ) (f : FragmentForm) (fs : List FragmentForm) → AllReadOn i (f ∷ fs) → Climbed (i + 1) fs → Climbed i (f ∷ fs)
    more_climbed i f fs on c = by (reads_of c.from f.root) refl
      where
        by : (n : ℕ) → reads_of c.from f.root ≡ n → Climbed i (f ∷ fs)
        by zero is =
            let parts = fragment_parts tasks (i + 1) fs in
            let place = part_later i c.from (fragment_run tasks (i + 1) parts f) parts c.among.0 in
            record {
              from = c.from;
              among = (omega (arith, c.among.0), omega (arith, c.among.1));
              has = subst (λ (p : Part). Has p.root) (sym place) c.has;
              unread = omega (arith, is, c.unread);
            }
        by (suc n) is =
            let parts = fragment_parts tasks (i + 1) fs in
            let place = part_here i i (fragment_run tasks (i + 1) parts f) parts refl in
            here_climbed i f fs on (subst (λ (p : Part). Has p.root) (sym place) (node_has (i + 1) parts c.from c.has f.root (omega (arith, is))))

    climb : (i : ℕ) (fs : List FragmentForm) (k : ℕ) → AllReadOn i fs → IsAmong i (length fs) k → HasPart i fs k → Climbed i fs
    climb i [] k on among has = absurd (omega (arith, among.0, among.1))
    climb i (f ∷ fs) k on among has =
        by (λ later. climb (i + 1) fs k on.1 (later, omega (arith, among.1))) (k == i) refl
      where
        by : (i + 1 ≤ k → HasPart (i + 1) fs k → Climbed (i + 1) fs) → (b : Bool) → k == i ≡ b → Climbed i (f ∷ fs)
        by rest true is = here_climbed i f fs on (subst (HasPart i (f ∷ fs)) (eqb-true k i is) has)
        by rest false is =
            let other = eqb-false k i is in
            let later : i + 1 ≤ k = omega (arith, other, among.0) in
            let parts = fragment_parts tasks (i + 1) fs in
            let place = part_later i k (fragment_run tasks (i + 1) parts f) parts later in
            more_climbed i f fs on (rest later (subst (λ (p : Part). Has p.root) place has))

    pub root_has : (fs : List FragmentForm) (k : ℕ) → AllReadOn 0 fs → AreReadOnce fs → IsAmong 0 (length fs) k → HasPart 0 fs k → HasPart 0 fs 0
    root_has fs k on once among has = of (climb 0 fs k on among has)
      where
        of : Climbed 0 fs → HasPart 0 fs 0
        of c = by (c.from == 0) refl
          where
            by : (b : Bool) → c.from == 0 ≡ b → HasPart 0 fs 0
            by true is = subst (HasPart 0 fs) (eqb-true c.from 0 is) c.has
            by false is =
                let other = eqb-false c.from 0 is in
                let read = once c.from (omega (arith, other)) (omega (arith, c.among.1)) in
                absurd (omega (arith, read, c.unread))

module _ (reads : ℕ → TreeForm) (first : ℕ) (parts : List Part) (P : ℕ → Type 0) (same : (n : ℕ) → P n → reads n ≡ tree_of_run (part_read first parts n).root)
    (whole : RunPlan) where
  -- the run has each join that a node has
  abbrev Above : NodeForm → Type 0
  Above node = (at : ℕ) (how : JoinKind) (side : RunPlan) → HasJoin (node_run first parts node) at how side → HasJoin whole at how side

  abbrev Ours : NodeForm → Type 0
  Ours node = EachJoin (λ id kind on filters left. HasJoinOver whole id kind (node_tree reads left)) node

  over_final : (id : ℕ) (input node : NodeForm) → node_run first parts node ≡ one_with id (node_run first parts input) → Above node → Above input
  over_final id input node is up at how side h = up at how side (subst (λ (r : RunPlan). HasJoin r at how side) (sym is) (with_has at how side id (node_run first parts input) h))

  node_joins : (node : NodeForm) → EachSource P node → Above node → Ours node
  node_joins (scan id table columns types) each up = tt
  node_joins (values id types rows) each up = tt
  node_joins (remote id fragment) each up = tt
  node_joins (filter id predicate input) each up = node_joins input each up
  node_joins (project id columns input) each up = node_joins input each up
  node_joins (join id kind on filters left right) each up = (
    record {
      side = node_run first parts left;
      has = up id kind (node_run first parts left) (inl (refl, refl, refl));
      means = sym (node_runs reads first parts P same left each.0);
    },
    node_joins left each.0 (λ at how side h. up at how side (inr (inl h))),
    node_joins right each.1 (λ at how side h. up at how side (inr (inr h))),
  )
  node_joins (aggregate id step keys calls input) each up = node_joins input each up
  node_joins (aggregate_final id input) each up = node_joins input each (over_final id input (aggregate_final id input) refl up)
  node_joins (sort id keys input) each up = node_joins input each up
  node_joins (top_n id step count keys input) each up = node_joins input each up
  node_joins (top_n_final id input) each up = node_joins input each (over_final id input (top_n_final id input) refl up)
  node_joins (limit id step count input) each up = node_joins input each up
  node_joins (limit_final id input) each up = node_joins input each (over_final id input (limit_final id input) refl up)
  node_joins (union id left right) each up =
      (node_joins left each.0 (λ at how side h. up at how side (inl h)), node_joins right each.1 (λ at how side h. up at how side (inr h)))

module _ (tasks : ℕ) (fs : List FragmentForm) (whole : RunPlan) where
  abbrev Joined : FragmentForm → Type 0
  Joined f = EachJoin (λ id kind on filters left. HasJoinOver whole id kind (node_tree (trees_of fs) left)) f.root

  joins_from : (i : ℕ) (rest : List FragmentForm) → From tasks fs i rest → AllReadOn i rest → length rest ≤ length fs
      → ((k : ℕ) → IsAmong i (length rest) k → (at : ℕ) (how : JoinKind) (side : RunPlan) → HasJoin (part_read i (fragment_parts tasks i rest) k).root at how side → HasJoin whole at how side)
      → All Joined rest
  joins_from i [] at on enough up = All-nil Joined
  joins_from i (f ∷ rest) at on enough up =
      let parts = fragment_parts tasks (i + 1) rest in
      let part = fragment_run tasks (i + 1) parts f in
      All-cons Joined f rest
      (node_joins (trees_of fs) (i + 1) parts (IsAmong (i + 1) (length rest))
      (λ n among. fragment_means tasks fs (i + 1) rest (from_next tasks fs i f rest at) on.1 (length fs) (omega (arith, enough)) n among)
      whole f.root on.0
      (λ at how side h. up i (omega arith, omega arith) at how side (subst (λ (p : Part). HasJoin p.root at how side) (sym (part_here i i part parts refl)) h)))
      (joins_from (i + 1) rest (from_next tasks fs i f rest at) on.1 (omega (arith, enough))
      (λ k among at how side h. up k (omega (arith, among.0), omega (arith, among.1)) at how side
      (subst (λ (p : Part). HasJoin p.root at how side) (sym (part_later i k part parts among.0)) h)))

pub joins_run : (tasks : ℕ) (plan : PlanForm) → AllReadOn 0 plan.fragments → AreReadOnce plan.fragments → HasJoins (plan_run tasks plan) plan
joins_run tasks plan on once =
    let fs = plan.fragments in
    joins_from tasks fs (plan_run tasks plan) 0 fs (λ k. let none : 0 + k ≡ k = omega arith in ap (slice_get fs) none) on (omega arith)
    (λ k among at how side h. root_has at how side tasks fs k on once among h)
