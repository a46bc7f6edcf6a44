-- The tree of each fragment of a plan is that of its part of the run.
use Rattle.std.proofs.Common.{◌≡◌, ℕ, ◌+◌, ◌≤◌, zero, suc, List, [], ◌∷◌, length, Bool, true, false, refl, ap, sym, ◌∙◌, arith}
use Rattle.std.specs.Prelude.{slice_get, ◌==◌}
use Rattle.std.proofs.lemmas.Bool.{eqb-false, eqb-true}
use Rattle.plan_docs.specs.Plans.{FragmentForm}
use Rattle.plan_link_laws.specs.Trees.{fragment_tree, root_tree}
use Rattle.plan_link_laws.proofs.RunLemmas.{node_runs}
use Rattle.plan_run_laws.specs.RunPlans.{tree_of_run}
use Rattle.plan_spreads.specs.Reading.{AllReadOn, IsAmong}
use Rattle.plan_spreads.specs.Runs.{Part, fragment_parts, fragment_run, part_read}
use Rattle.net_laws.proofs.PartLemmas.{part_here, part_later}

read_root : (more : ℕ) (fs : List FragmentForm) (n : ℕ) → fragment_tree (suc more) fs n ≡ root_tree (fragment_tree more fs) (slice_get fs n)
unfolding fragment_tree
read_root more fs n = refl

module _ (tasks : ℕ) (fs : List FragmentForm) where
  -- the fragments from place i on are `rest`
  abbrev pub From : ℕ → List FragmentForm → Type 0
  From i rest = (k : ℕ) → slice_get fs (i + k) ≡ slice_get rest k

  pub from_next : (i : ℕ) (f : FragmentForm) (rest : List FragmentForm) → From i (f ∷ rest) → From (i + 1) rest
  from_next i f rest at k = let step : i + 1 + k ≡ i + suc k = omega arith in ap (slice_get fs) step ∙ at (suc k)

  abbrev Means : ℕ → ℕ → List FragmentForm → ℕ → Type 0
  Means more i rest n = fragment_tree more fs n ≡ tree_of_run (part_read i (fragment_parts tasks i rest) n).root

  means_here : (more i n : ℕ) (f : FragmentForm) (rest : List FragmentForm) → From i (f ∷ rest) → AllReadOn i (f ∷ rest) → n ≡ i
      → ((m : ℕ) → IsAmong (i + 1) (length rest) m → Means more (i + 1) rest m) → Means (suc more) i (f ∷ rest) n
  means_here more i n f rest at on is below =
      let parts = fragment_parts tasks (i + 1) rest in
      let place : n ≡ i + 0 = omega (arith, is) in
      read_root more fs n ∙ ap (λ (k : ℕ). root_tree (fragment_tree more fs) (slice_get fs k)) place ∙ ap (root_tree (fragment_tree more fs)) (at 0)
      ∙ node_runs (fragment_tree more fs) (i + 1) parts (IsAmong (i + 1) (length rest)) below f.root on.0
      ∙ sym (ap (λ (p : Part). tree_of_run p.root) (part_here i n (fragment_run tasks (i + 1) parts f) parts is))

  pub fragment_means : (i : ℕ) (rest : List FragmentForm) → From i rest → AllReadOn i rest → (more : ℕ) → length rest ≤ more → (n : ℕ) → IsAmong i (length rest) n → Means more i rest n
  fragment_means i [] at on more enough n among = absurd (omega (arith, among.0, among.1))
  fragment_means i (f ∷ rest) at on zero enough n among = absurd (omega (arith, enough))
  fragment_means i (f ∷ rest) at on (suc more) enough n among =
      by (λ m inner. fragment_means (i + 1) rest (from_next i f rest at) on.1 more (omega (arith, enough)) m inner)
      (λ later. fragment_means (i + 1) rest (from_next i f rest at) on.1 (suc more) (omega (arith, enough)) n (later, omega (arith, among.1)))
      (n == i) refl
    where
      by : ((m : ℕ) → IsAmong (i + 1) (length rest) m → Means more (i + 1) rest m) → (i + 1 ≤ n → Means (suc more) (i + 1) rest n) → (b : Bool) → n == i ≡ b
          → Means (suc more) i (f ∷ rest) n
      by below after true is = means_here more i n f rest at on (eqb-true n i is) below
      by below after false is =
          let other = eqb-false n i is in
          let later : i + 1 ≤ n = omega (arith, other, among.0) in
          let parts = fragment_parts tasks (i + 1) rest in
          after later ∙ sym (ap (λ (p : Part). tree_of_run p.root) (part_later i n (fragment_run tasks (i + 1) parts f) parts later))
