-- Plans of several fragments in which each source reads a fragment after its own. The earlier checks ask this of
-- documents.
use Rattle.std.specs.Prelude.{◌≡◌, ℕ, ◌+◌, ◌<◌, ◌≤◌, List, [], ◌∷◌, length, ◌==◌, if◌then◌else◌}
use Rattle.plan_docs.specs.Nodes.{NodeForm}
use Rattle.plan_docs.specs.Nodes as node
use Rattle.plan_docs.specs.Plans.{FragmentForm}

-- what is said of the fragment that each remote source of a node names
abbrev pub EachSource : (ℕ → Type 0) → NodeForm → Type 0
EachSource P (node.scan id table columns types) = Unit {0}
EachSource P (node.values id types rows) = Unit {0}
EachSource P (node.remote id fragment) = P fragment
EachSource P (node.step id operator input) = EachSource P input
EachSource P (node.join id kind on filters left right) = EachSource P left × EachSource P right
EachSource P (node.union id left right) = EachSource P left × EachSource P right

-- one of so many fragments from `first` on
abbrev pub IsAmong : ℕ → ℕ → ℕ → Type 0
IsAmong first count fragment = (first ≤ fragment) × (fragment < first + count)

-- of the fragments from place i on
abbrev pub AllReadOn : ℕ → List FragmentForm → Type 0
AllReadOn i [] = Unit {0}
AllReadOn i (f ∷ fs) = EachSource (IsAmong (i + 1) (length fs)) f.root × AllReadOn (i + 1) fs

-- how many of the remote sources of a node name the fragment
abbrev pub reads_of : ℕ → NodeForm → ℕ
reads_of number (node.scan id table columns types) = 0
reads_of number (node.values id types rows) = 0
reads_of number (node.remote id fragment) = if fragment == number then 1 else 0
reads_of number (node.step id operator input) = reads_of number input
reads_of number (node.join id kind on filters left right) = reads_of number left + reads_of number right
reads_of number (node.union id left right) = reads_of number left + reads_of number right

abbrev pub reads_in : ℕ → List FragmentForm → ℕ
reads_in number [] = 0
reads_in number (f ∷ fs) = reads_of number f.root + reads_in number fs

-- each fragment but the first is read by one source
abbrev pub AreReadOnce : List FragmentForm → Type 0
AreReadOnce fragments = (number : ℕ) → 0 < number → number < length fragments → reads_in number fragments ≡ 1
