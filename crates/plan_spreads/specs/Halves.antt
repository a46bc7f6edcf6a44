-- Plans whose halves of operators meet: a PARTIAL node is the root of a fragment that a FINAL node of its operator
-- reads, and a FINAL node reads such a root. The earlier checks ask this of documents.
use Rattle.std.specs.Prelude.{◌≡◌, ℕ, ◌+◌, List, [], ◌∷◌, Option, Some, None}
use Rattle.plan_docs.specs.declared.node.NodeStep.{NodeStep}
use Rattle.plan_docs.specs.declared.node.NodeStep.TheVariants.{Single, Partial}
use Rattle.plan_docs.specs.Nodes.{NodeForm, scan, values, remote, filter, project, join, aggregate, aggregate_final, sort, top_n, top_n_final, limit, limit_final, union}
use Rattle.plan_docs.specs.Plans.{FragmentForm}
use Rattle.plan_spreads.specs.Sources.{fragment_read}

-- the operators that have halves
pub data Halved : Type 0 where
  aggregates : Halved
  top_ns : Halved
  limits : Halved

abbrev pub partial_half : NodeStep → Halved → Option Halved
partial_half Partial operator = Some operator
partial_half Single operator = None

-- the operator whose PARTIAL half the node is
abbrev pub half : NodeForm → Option Halved
half (aggregate id step keys calls input) = partial_half step aggregates
half (top_n id step count keys input) = partial_half step top_ns
half (limit id step count input) = partial_half step limits
half node = None

-- there is the fragment, and its root is a half of the operator, or of none
abbrev pub HasHalf : Option Halved → Option FragmentForm → Type 0
HasHalf operator None = ⊥
HasHalf operator (Some f) = half f.root ≡ operator

abbrev pub ReadsHalf : Halved → ℕ → List FragmentForm → NodeForm → Type 0
ReadsHalf operator first later (remote id fragment) = HasHalf (Some operator) (fragment_read first later fragment)
ReadsHalf operator first later node = ⊥

-- the halves at and below a node meet, and it is no PARTIAL one
abbrev pub Meets : ℕ → List FragmentForm → NodeForm → Type 0
Meets first later (scan id table columns types) = Unit {0}
Meets first later (values id types rows) = Unit {0}
Meets first later (remote id fragment) = HasHalf None (fragment_read first later fragment)
Meets first later (filter id predicate input) = Meets first later input
Meets first later (project id columns input) = Meets first later input
Meets first later (join id kind on filters left right) = Meets first later left × Meets first later right
Meets first later (aggregate id step keys calls input) = (step ≡ Single) × Meets first later input
Meets first later (aggregate_final id input) = ReadsHalf aggregates first later input
Meets first later (sort id keys input) = Meets first later input
Meets first later (top_n id step count keys input) = (step ≡ Single) × Meets first later input
Meets first later (top_n_final id input) = ReadsHalf top_ns first later input
Meets first later (limit id step count input) = (step ≡ Single) × Meets first later input
Meets first later (limit_final id input) = ReadsHalf limits first later input
Meets first later (union id left right) = Meets first later left × Meets first later right

-- a root may be a PARTIAL node
abbrev pub RootMeets : ℕ → List FragmentForm → NodeForm → Type 0
RootMeets first later (aggregate id step keys calls input) = Meets first later input
RootMeets first later (top_n id step count keys input) = Meets first later input
RootMeets first later (limit id step count input) = Meets first later input
RootMeets first later node = Meets first later node

-- of the fragments from place i on
abbrev pub AllMeet : ℕ → List FragmentForm → Type 0
AllMeet i [] = Unit {0}
AllMeet i (f ∷ fs) = RootMeets (i + 1) fs f.root × AllMeet (i + 1) fs

-- and nothing reads fragment 0
abbrev pub HalvesMeet : List FragmentForm → Type 0
HalvesMeet [] = Unit {0}
HalvesMeet (f ∷ fs) = Meets 1 fs f.root × AllMeet 1 fs
