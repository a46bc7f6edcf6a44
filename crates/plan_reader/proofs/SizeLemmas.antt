-- How far the tree of a fragment is from its end: through how many fragments it may still go, and
-- how large the node is.
use Rattle.std.proofs.Common.{◌≡◌, ℕ, zero, suc, ◌+◌, ◌-◌, ◌*◌, ◌<◌, ◌≤◌, List, [], ◌∷◌, length, map, get_or, Some, None, refl, ap, arith}
use Rattle.std.specs.Prelude.{slice_get}
use Rattle.plan_docs.specs.declared.plan.Fragment.{Fragment}
use Rattle.plan_docs.specs.Nodes.{NodeForm, scan, values, remote, step, join, union, node_view}
use Rattle.plan_docs.specs.Plans.{FragmentForm, fragment_view}
use Rattle.plan_reader.specs.Trees.{fragment_tree, node_tree, nothing, root_tree}

abbrev pub node_size : NodeForm → ℕ
node_size (scan id table columns types) = 1
node_size (values id types rows) = 1
node_size (remote id fragment) = 1
node_size (step id operator input) = 1 + node_size input
node_size (join id kind on filters left right) = 1 + node_size left + node_size right
node_size (union id left right) = 1 + node_size left + node_size right

abbrev pub all_size : List Fragment → ℕ
all_size [] = 0
all_size (f ∷ fs) = node_size (node_view f.root) + all_size fs

-- the root of a fragment is no larger than all
pub root_size : (fs : List Fragment) (i : ℕ) (f : Fragment) → i < length fs → f ≡ get_or fs i f → node_size (node_view f.root) ≤ all_size fs
root_size [] i f within is = absurd (omega arith)
root_size (g ∷ fs) zero f within is = let e : f ≡ g = is in rw e (omega arith)
root_size (g ∷ fs) (suc i) f within is = let h : node_size (node_view f.root) ≤ all_size fs = root_size fs i f (omega arith) is in omega arith

-- one fragment less is less, whatever its root
pub falls : (most all size : ℕ) → (most ≡ 0 → ⊥) → size ≤ all → (most - 1) * (3 + 2 * all) + (1 + 2 * size) < most * (3 + 2 * all)
falls zero all size some h = absurd (some refl)
falls (suc k) all size some h = let e : suc k - 1 ≡ k = omega arith in rw e (omega arith)

found : (fs : List Fragment) (i : ℕ) (f : Fragment) → i < length fs → f ≡ get_or fs i f → slice_get (map fragment_view fs) i ≡ Some (fragment_view f)
found [] i f within is = absurd (omega arith)
found (g ∷ fs) zero f within is = let e : f ≡ g = is in rw e refl
found (g ∷ fs) (suc i) f within is = found fs i f (omega arith) is

past : (fs : List Fragment) (i : ℕ) → length fs ≤ i → slice_get (map fragment_view fs) i ≡ None
past [] i h = refl
past (g ∷ fs) zero h = absurd (omega arith)
past (g ∷ fs) (suc i) h = past fs i (omega arith)

pub fragment_tree-none : (n : ℕ) (fs : List FragmentForm) (i : ℕ) → n ≡ 0 → fragment_tree n fs i ≡ nothing
unfolding fragment_tree
fragment_tree-none n fs i e = rw e refl

pub fragment_tree-past : (n : ℕ) (fs : List Fragment) (i : ℕ) → length fs ≤ i → fragment_tree n (map fragment_view fs) i ≡ nothing
unfolding fragment_tree
fragment_tree-past zero fs i h = refl
fragment_tree-past (suc n) fs i h = ap (root_tree (fragment_tree n (map fragment_view fs))) (past fs i h)

pub fragment_tree-more : (n : ℕ) (fs : List Fragment) (i : ℕ) (f : Fragment) → (n ≡ 0 → ⊥) → i < length fs → f ≡ get_or fs i f
    → fragment_tree n (map fragment_view fs) i ≡ node_tree (fragment_tree (n - 1) (map fragment_view fs)) (node_view f.root)
unfolding fragment_tree
fragment_tree-more zero fs i f some within is = absurd (some refl)
fragment_tree-more (suc n) fs i f some within is =
    let e : suc n - 1 ≡ n = omega arith in
    rw e (ap (root_tree (fragment_tree n (map fragment_view fs))) (found fs i f within is))

pub ruleset fragments = (fragment_tree-none, fragment_tree-past, fragment_tree-more, falls, root_size)
