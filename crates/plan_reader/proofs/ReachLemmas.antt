-- Where no dynamic filter is misdirected, each names the column of a scan from which its own comes.
use Rattle.std.proofs.Common.{◌≡◌, ℕ, ◌+◌, List, [], ◌∷◌, Bool, true, false, cond, Option, Some, None, refl, ap, ◌∙◌, arith}
use Rattle.std.specs.Prelude.{All, slice_get, not, ◌&&◌, ◌==◌, option_and_then}
use Rattle.std.specs.List.{position_from}
use Rattle.std.specs.Option.{option_or}
use Rattle.std.proofs.lemmas.Bool.{eqb-true}
use Rattle.std.proofs.lemmas.List.Elements.{All-cons}
use Rattle.sql_values.specs.declared.relational.JoinKind.{JoinKind}
use Rattle.sql_values.specs.declared.relational.JoinKind.TheVariants.{Inner, Left}
use Rattle.json_paths.specs.declared.key.Key.TheVariants as key
use Rattle.sql_exprs.specs.Typing.{Path, under}
use Rattle.plan_trees.specs.declared.tree.Pair.{Pair}
use Rattle.plan_trees.specs.TreeForms.{TreeForm}
use Rattle.column_origins.specs.declared.origin.Origin.{Origin}
use Rattle.column_origins.specs.Origins.{origin_of}
use Rattle.plan_docs.specs.declared.node.DynamicFilter.{DynamicFilter}
use Rattle.plan_docs.specs.Nodes.{NodeForm, scan, values, remote, step, filter, join, union}
use Rattle.plan_docs.specs.Plans.{FragmentForm, PlanForm}
use Rattle.plan_types.specs.Faults.{entry_fault}
use Rattle.plan_types.specs.Plans.{root_path}
use Rattle.plan_reader.specs.Filters.{first_misdirected, fragments_fault, is_misdirected, is_named, join_fault, node_fault, pair_origin, trees_of}
use Rattle.plan_reader.specs.Reaches.{FiltersReach, NodeReaches, ReachesScan}
use Rattle.plan_reader.specs.Trees.{node_tree}

pub first_option : {A : Type 0} (o p : Option A) → option_or o p ≡ None → o ≡ None
first_option None p h = refl
first_option (Some x) p h = h

pub second_option : {A : Type 0} (o p : Option A) → option_or o p ≡ None → p ≡ None
second_option None p h = h
second_option (Some x) p h = absurd cc

both_same : (a b : Bool) → not (a && b) ≡ false → (a ≡ true) × (b ≡ true)
both_same true true h = (refl, refl)
both_same true false h = absurd cc
both_same false b h = absurd cc

abbrev column_of : ℕ → ℕ → Origin
column_of s c = record { scan = s; column = c }

same_origin : (s c t d : ℕ) → s ≡ t → c ≡ d → column_of s c ≡ column_of t d
same_origin s c t d p q = ap (λ (n : ℕ). column_of n c) p ∙ ap (column_of t) q

named : (f : DynamicFilter) (o : Option Origin) → not (is_named f o) ≡ false → o ≡ Some (column_of f.scan f.column)
named f (Some o) h =
    let same = both_same (o.scan == f.scan) (o.column == f.column) h in
    ap Some (same_origin o.scan o.column f.scan f.column (eqb-true o.scan f.scan same.0) (eqb-true o.column f.column same.1))
named f None h = absurd cc

from_pair : (on : List Pair) (left : TreeForm) (f : DynamicFilter) (p : Option Pair) → slice_get on f.key ≡ p
    → option_and_then (λ (pair : Pair). origin_of left pair.left) p ≡ Some (column_of f.scan f.column) → ReachesScan Inner on left f
from_pair on left f (Some pair) is comes = record { inner = refl; pair = pair; is_pair = is; comes = comes }
from_pair on left f None is comes = absurd cc

reaches : (kind : JoinKind) (on : List Pair) (left : TreeForm) (f : DynamicFilter) → is_misdirected kind on left f ≡ false → ReachesScan kind on left f
reaches Inner on left f h = from_pair on left f (slice_get on f.key) refl (named f (pair_origin Inner on left f.key) h)
reaches Left on left f h = absurd cc

all_of_none : {A : Type 0} (P : A → Type 0) → All P []
all_of_none P k d within = absurd (omega arith)

one_more : {A : Type 0} (test : A → Bool) (P : A → Type 0) (i : ℕ) (later : Option ℕ) (x : A) (xs : List A) → (test x ≡ false → P x)
    → (later ≡ None → All P xs) → (b : Bool) → test x ≡ b → cond b (Some i) later ≡ None → All P (x ∷ xs)
one_more test P i later x xs gives rest true is h = absurd cc
one_more test P i later x xs gives rest false is h = All-cons P x xs (gives is) (rest h)

-- where the test finds no place, all are what it says of those that fail it
none_found : {A : Type 0} (test : A → Bool) (P : A → Type 0) → ((x : A) → test x ≡ false → P x)
    → (i : ℕ) (xs : List A) → position_from test i xs ≡ None → All P xs
none_found test P gives i [] h = all_of_none P
none_found test P gives i (x ∷ xs) h =
    one_more test P i (position_from test (i + 1) xs) x xs (gives x) (none_found test P gives (i + 1) xs) (test x) refl h

no_entry : (path : Path) (found : Option ℕ) → entry_fault path key.Filters found ≡ None → found ≡ None
no_entry path None h = refl
no_entry path (Some i) h = absurd cc

joins : (path : Path) (kind : JoinKind) (on : List Pair) (left : TreeForm) (filters : List DynamicFilter)
    → join_fault path kind on left filters ≡ None → All (ReachesScan kind on left) filters
joins path kind on left filters h =
    none_found (is_misdirected kind on left) (ReachesScan kind on left) (reaches kind on left) 0 filters
    (no_entry path (position_from (is_misdirected kind on left) 0 filters) h)

nodes : (reads : ℕ → TreeForm) (path : Path) (n : NodeForm) → node_fault reads path n ≡ None → NodeReaches reads n
nodes reads path (scan id table columns types) h = tt
nodes reads path (values id types rows) h = tt
nodes reads path (remote id fragment) h = tt
nodes reads path (step id operator input) h = nodes reads (under path key.Input) input h
nodes reads path (join id kind on filters left right) h =
    let first = node_fault reads (under path key.Left) left in
    let second = node_fault reads (under path key.Right) right in
    let own = join_fault path kind on (node_tree reads left) filters in
    let later = second_option first (option_or second own) h in (
      nodes reads (under path key.Left) left (first_option first (option_or second own) h),
      nodes reads (under path key.Right) right (first_option second own later),
      joins path kind on (node_tree reads left) filters (second_option second own later),
    )
nodes reads path (union id left right) h =
    let first = node_fault reads (under path key.Left) left in
    let second = node_fault reads (under path key.Right) right in
    (nodes reads (under path key.Left) left (first_option first second h), nodes reads (under path key.Right) right (second_option first second h))

fragments : (reads : ℕ → TreeForm) (i : ℕ) (fs : List FragmentForm) → fragments_fault reads i fs ≡ None
    → All (λ (f : FragmentForm). NodeReaches reads f.root) fs
fragments reads i [] h = all_of_none (λ (f : FragmentForm). NodeReaches reads f.root)
fragments reads i (f ∷ fs) h =
    let first = node_fault reads (root_path i) f.root in
    let later = fragments_fault reads (i + 1) fs in
    All-cons (λ (f : FragmentForm). NodeReaches reads f.root) f fs
    (nodes reads (root_path i) f.root (first_option first later h))
    (fragments reads (i + 1) fs (second_option first later h))

pub all_reach : (plan : PlanForm) → first_misdirected plan ≡ None → FiltersReach plan
all_reach plan h = fragments (trees_of plan.fragments) 0 plan.fragments h
