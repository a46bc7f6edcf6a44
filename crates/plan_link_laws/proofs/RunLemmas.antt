-- The tree of a plan is that of the plan as it runs.
use Rattle.std.proofs.Common.{◌≡◌, ℕ, ◌+◌, ◌-◌, ◌<◌, ◌≤◌, zero, suc, List, [], ◌∷◌, length, map, refl, ap, sym, ◌∙◌, arith}
use Rattle.std.specs.Prelude.{slice_get, unwrap_or}
use Rattle.plan_docs.specs.Nodes.{NodeForm, scan, values, remote, filter, project, join, aggregate, aggregate_final, sort, top_n, top_n_final, limit, limit_final, union}
use Rattle.plan_docs.specs.Plans.{FragmentForm, PlanForm}
use Rattle.plan_trees.specs.TreeForms.{TreeForm, pair_view}
use Rattle.plan_trees.specs.TreeForms as tree
use Rattle.plan_reader.specs.Trees.{fragment_tree, node_tree, root_tree, tree_of, whole, whole_over}
use Rattle.plan_run_laws.specs.RunPlans.{Output, RunPlan, tree_of_run}
use Rattle.plan_run_laws.specs.RunPlans as run
use Rattle.plan_spreads.specs.Runs.{Part, fragment_parts, no_part, node_run, one_over, one_with, part_read, plan_run}
use Rattle.plan_spreads.specs.Reading.{AllReadOn, EachSource, IsAmong}

over_one : (id source : ℕ) (o : Output) (tasks : ℕ) (r : RunPlan) → whole_over id source (tree_of_run r) ≡ tree_of_run (one_over id source o tasks r)
over_one id source o tasks (run.aggregate half keys calls input) = refl
over_one id source o tasks (run.aggregate_parts half below p n keys calls input) = refl
over_one id source o tasks r = refl

whole_one : (id : ℕ) (r : RunPlan) → whole id (tree_of_run r) ≡ tree_of_run (one_with id r)
whole_one id (run.remote source o tasks r) = over_one id source o tasks r
whole_one id (run.filter half predicate input) = refl
whole_one id (run.aggregate_parts half below p n keys calls input) = refl
whole_one id r = refl

module _ (reads : ℕ → TreeForm) (first : ℕ) (parts : List Part) (P : ℕ → Type 0)
    (same : (n : ℕ) → P n → reads n ≡ tree_of_run (part_read first parts n).root) where
  pub node_runs : (node : NodeForm) → EachSource P node → node_tree reads node ≡ tree_of_run (node_run first parts node)
  node_runs (scan id table columns types) each = refl
  node_runs (values id types rows) each = refl
  node_runs (remote id fragment) each = ap (tree.remote id) (same fragment each)
  node_runs (filter id predicate input) each = cc (node_runs input each)
  node_runs (project id columns input) each = cc (node_runs input each)
  node_runs (join id kind on filters left right) each =
      (λ i. tree.join id kind (map pair_view on) (node_runs left each.0 i) (node_runs right each.1 i))
  node_runs (aggregate id step keys calls input) each = cc (node_runs input each)
  node_runs (aggregate_final id input) each = ap (whole id) (node_runs input each) ∙ whole_one id (node_run first parts input)
  node_runs (sort id keys input) each = cc (node_runs input each)
  node_runs (top_n id step count keys input) each = cc (node_runs input each)
  node_runs (top_n_final id input) each = ap (whole id) (node_runs input each) ∙ whole_one id (node_run first parts input)
  node_runs (limit id step count input) each = cc (node_runs input each)
  node_runs (limit_final id input) each = ap (whole id) (node_runs input each) ∙ whole_one id (node_run first parts input)
  node_runs (union id left right) each = (λ i. tree.union id (node_runs left each.0 i) (node_runs right each.1 i))

read_root : (more : ℕ) (fs : List FragmentForm) (n : ℕ) → fragment_tree (suc more) fs n ≡ root_tree (fragment_tree more fs) (slice_get fs n)
unfolding fragment_tree
read_root more fs n = refl

module _ (tasks : ℕ) (fs : List FragmentForm) where
  abbrev part_at : List Part → ℕ → TreeForm
  part_at parts k = tree_of_run (unwrap_or (slice_get parts k) no_part).root

  -- the fragments from place i on are `rest`
  abbrev From : ℕ → List FragmentForm → Type 0
  From i rest = (k : ℕ) → slice_get fs (i + k) ≡ slice_get rest k

  from_next : (i : ℕ) (f : FragmentForm) (rest : List FragmentForm) → From i (f ∷ rest) → From (i + 1) rest
  from_next i f rest at k = let step : i + 1 + k ≡ i + suc k = omega arith in ap (slice_get fs) step ∙ at (suc k)

  runs_from : (i : ℕ) (rest : List FragmentForm) → From i rest → AllReadOn i rest → (more : ℕ) → length rest ≤ more → (k : ℕ) → k < length rest
      → fragment_tree more fs (i + k) ≡ part_at (fragment_parts tasks i rest) k
  runs_from i [] at on more enough k lt = absurd (omega (arith, lt))
  runs_from i (f ∷ rest) at on zero enough k lt = absurd (omega (arith, enough))
  runs_from i (f ∷ rest) at on (suc more) enough zero lt =
      let parts = fragment_parts tasks (i + 1) rest in
      read_root more fs (i + 0) ∙ ap (root_tree (fragment_tree more fs)) (at 0)
      ∙ node_runs (fragment_tree more fs) (i + 1) parts (IsAmong (i + 1) (length rest))
      (λ n among.
      let later = n - (i + 1) in
      let back : i + 1 + later ≡ n = omega (arith, among.0) in
      ap (fragment_tree more fs) (sym back)
      ∙ runs_from (i + 1) rest (from_next i f rest at) on.1 more (omega (arith, enough)) later (omega (arith, among.0, among.1)))
      f.root on.0
  runs_from i (f ∷ rest) at on (suc more) enough (suc k) lt =
      let step : i + suc k ≡ i + 1 + k = omega arith in
      ap (fragment_tree (suc more) fs) step
      ∙ runs_from (i + 1) rest (from_next i f rest at) on.1 (suc more) (omega (arith, enough)) k (omega (arith, lt))

nothing_runs : (tasks : ℕ) → fragment_tree 0 [] 0 ≡ tree_of_run (part_read 0 (fragment_parts tasks 0 []) 0).root
unfolding fragment_tree
nothing_runs tasks = refl

fragments_run : (tasks : ℕ) (fs : List FragmentForm) → AllReadOn 0 fs → fragment_tree (length fs) fs 0 ≡ tree_of_run (part_read 0 (fragment_parts tasks 0 fs) 0).root
fragments_run tasks [] on = nothing_runs tasks
fragments_run tasks (f ∷ fs) on =
    runs_from tasks (f ∷ fs) 0 (f ∷ fs) (λ k. let none : 0 + k ≡ k = omega arith in ap (slice_get (f ∷ fs)) none) on (length (f ∷ fs)) (omega arith) 0 (omega arith)

pub plan_runs_as : (plan : PlanForm) (tasks : ℕ) → AllReadOn 0 plan.fragments → tree_of plan ≡ tree_of_run (plan_run tasks plan)
unfolding tree_of
plan_runs_as plan tasks on = fragments_run tasks plan.fragments on
