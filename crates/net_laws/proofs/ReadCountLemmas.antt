-- Where each fragment but the first is read once, a plan as it runs has no more scans and joins of an id than its fragments.
use Rattle.std.proofs.Common.{◌≡◌, ℕ, ◌+◌, ◌<◌, ◌≤◌, List, [], ◌∷◌, length, refl, ap, arith}
use Rattle.std.specs.Prelude.{◌==◌}
use Rattle.plan_docs.specs.Nodes.{NodeForm, scan, values, remote, filter, step, project, join, aggregate, aggregate_final, sort, top_n, top_n_final, limit, limit_final, union}
use Rattle.plan_docs.specs.Plans.{FragmentForm, PlanForm}
use Rattle.plan_run_laws.specs.RunPlans.{Output, RunPlan}
use Rattle.plan_run_laws.specs.RunPlans as run
use Rattle.plan_spreads.specs.Reading.{AllReadOn, AreReadOnce, EachSource, IsAmong, reads_in, reads_of}
use Rattle.plan_spreads.specs.Runs.{Part, fragment_parts, node_run, one_over, one_with, part_read, plan_run}
use Rattle.plan_link_laws.proofs.CountLemmas.{one_if}
use Rattle.net_laws.proofs.JoinCountLemmas.{ids_append, ids_in, named_of}
use Rattle.net_laws.proofs.WeighLemmas.{once_most, read_once, weighed, weighed_sum}

-- how many scans and joins of a node have the id
abbrev pub ids_at : ℕ → NodeForm → ℕ
ids_at n (scan id table columns types) = one_if (id == n)
ids_at n (values id types rows) = 0
ids_at n (remote id fragment) = 0
ids_at n (step id operator input) = ids_at n input
ids_at n (join id kind on filters left right) = one_if (id == n) + ids_at n left + ids_at n right
ids_at n (union id left right) = ids_at n left + ids_at n right

abbrev pub ids_among : ℕ → List FragmentForm → ℕ
ids_among n [] = 0
ids_among n (f ∷ fs) = ids_at n f.root + ids_among n fs

-- a node that is one with its source and the node below has the same scans and joins
over_same : (id source : ℕ) (o : Output) (tasks : ℕ) (r : RunPlan) → named_of (one_over id source o tasks r) ≡ named_of r
over_same id source o tasks (run.aggregate half keys calls input) = refl
over_same id source o tasks r = refl

with_same : (id : ℕ) (r : RunPlan) → named_of (one_with id r) ≡ named_of r
with_same id (run.remote source o tasks r) = over_same id source o tasks r
with_same id r = refl

module _ (n first : ℕ) (parts : List Part) (among : ℕ → Type 0) (within : (k : ℕ) → among k → IsAmong first (length parts) k) where
  abbrev held : NodeForm → ℕ
  held node = ids_in n (named_of (node_run first parts node))

  abbrev fetched : NodeForm → ℕ
  fetched node = weighed n (λ k. reads_of k node) first parts

  node_held : (node : NodeForm) → EachSource among node → held node ≤ ids_at n node + fetched node
  node_held (scan id table columns types) each = omega arith
  node_held (values id types rows) each = omega arith
  node_held (remote id fragment) each = let once = read_once n fragment first parts (within fragment each) in omega (arith, once)
  node_held (filter id predicate input) each = node_held input each
  node_held (project id columns input) each = node_held input each
  node_held (join id kind on filters left right) each =
      let cut = ids_append n (named_of (node_run first parts left)) (named_of (node_run first parts right)) in
      let both = weighed_sum n (λ k. reads_of k left) (λ k. reads_of k right) first parts in
      omega (arith, cut, both, node_held left each.0, node_held right each.1)
  node_held (aggregate id half keys calls input) each = node_held input each
  node_held (aggregate_final id input) each = let same = ap (ids_in n) (with_same id (node_run first parts input)) in omega (arith, same, node_held input each)
  node_held (sort id keys input) each = node_held input each
  node_held (top_n id half count keys input) each = node_held input each
  node_held (top_n_final id input) each = let same = ap (ids_in n) (with_same id (node_run first parts input)) in omega (arith, same, node_held input each)
  node_held (limit id half count input) each = node_held input each
  node_held (limit_final id input) each = let same = ap (ids_in n) (with_same id (node_run first parts input)) in omega (arith, same, node_held input each)
  node_held (union id left right) each =
      let cut = ids_append n (named_of (node_run first parts left)) (named_of (node_run first parts right)) in
      let both = weighed_sum n (λ k. reads_of k left) (λ k. reads_of k right) first parts in
      omega (arith, cut, both, node_held left each.0, node_held right each.1)

module _ (tasks : ℕ) where
  parts_count : (i : ℕ) (fs : List FragmentForm) → length (fragment_parts tasks i fs) ≡ length fs
  parts_count i [] = refl
  parts_count i (f ∷ fs) = omega (arith, parts_count (i + 1) fs)

  root_held : (n i : ℕ) (f : FragmentForm) (fs : List FragmentForm) → AllReadOn i (f ∷ fs)
      → ids_in n (named_of (node_run (i + 1) (fragment_parts tasks (i + 1) fs) f.root))
      ≤ ids_at n f.root + weighed n (λ k. reads_of k f.root) (i + 1) (fragment_parts tasks (i + 1) fs)
  root_held n i f fs on =
      let count = parts_count (i + 1) fs in
      node_held n (i + 1) (fragment_parts tasks (i + 1) fs) (IsAmong (i + 1) (length fs)) (λ k among. (among.0, omega (arith, among.1, count))) f.root on.0

  -- each of the fragments from place i on is read once, and `often` says how often from before
  abbrev AtMostOnce : (ℕ → ℕ) → ℕ → List FragmentForm → Type 0
  AtMostOnce often i fs = (k : ℕ) → i ≤ k → k < i + length fs → often k + reads_in k fs ≤ 1

  all_held : (n i : ℕ) (fs : List FragmentForm) (often : ℕ → ℕ) → AllReadOn i fs → AtMostOnce often i fs → weighed n often i (fragment_parts tasks i fs) ≤ ids_among n fs
  all_held n i [] often on once = omega arith
  all_held n i (f ∷ fs) often on once =
      let parts = fragment_parts tasks (i + 1) fs in
      let root = ids_in n (named_of (node_run (i + 1) parts f.root)) in
      let low : often i ≤ 1 = let here = once i (omega arith) (omega arith) in omega (arith, here) in
      let here = once_most (often i) root low in
      let below = root_held n i f fs on in
      let both = weighed_sum n often (λ k. reads_of k f.root) (i + 1) parts in
      let rest = all_held n (i + 1) fs (λ k. often k + reads_of k f.root) on.1
      (λ k least most. let all = once k (omega (arith, least)) (omega (arith, most)) in omega (arith, all)) in
      omega (arith, here, below, both, rest)

  pub run_held : (n : ℕ) (plan : PlanForm) → AllReadOn 0 plan.fragments → AreReadOnce plan.fragments → ids_in n (named_of (plan_run tasks plan)) ≤ ids_among n plan.fragments
  run_held n plan = of plan.fragments
    where
      of : (fs : List FragmentForm) → AllReadOn 0 fs → AreReadOnce fs → ids_in n (named_of (part_read 0 (fragment_parts tasks 0 fs) 0).root) ≤ ids_among n fs
      of [] on once = omega arith
      of (f ∷ fs) on once =
          let below = root_held n 0 f fs on in
          let rest = all_held n 1 fs (λ k. reads_of k f.root) on.1
          (λ k least most. let all = once k (omega (arith, least)) (omega (arith, most)) in omega (arith, all)) in
          omega (arith, below, rest)
